-- How a folder in memory stores its writes: the lengths of each one's path and bytes, and all of these behind one another in one text.
use Rattle.std.specs.Prelude.{◌≡◌, ◌≢◌, ℕ, Bool, ◌||◌, nat_eq, ◌+◌, ◌<◌, ◌≤◌, List, [], ◌∷◌, ◌++◌, take, drop, length, ⊤}
use Rattle.std.specs.BTreeSet.{BTreeSet, contains}
use Rattle.std.specs.Cmp.Lexicographic.{pointwise, slice_cmp}
use Rattle.std.specs.Ordering.{nat_cmp}
use Rattle.std.specs.Str.{IsUtf8}
use Rattle.outside_io.specs.MemoryKinds.{bytes_of}

-- the path and the bytes of each write
abbrev pub log_of : List (ℕ × ℕ) → List ℕ → List (List ℕ × List ℕ)
log_of [] text = []
log_of (size ∷ sizes) text = (take size.0 text, take size.1 (drop size.0 text)) ∷ log_of sizes (drop (size.0 + size.1) text)

-- how many bytes of the text the writes take
abbrev pub taken : List (ℕ × ℕ) → ℕ
taken [] = 0
taken (size ∷ sizes) = size.0 + size.1 + taken sizes

-- each path is UTF-8
abbrev pub AreTexts : List (List ℕ × List ℕ) → Type 0
AreTexts [] = ⊤
AreTexts (write ∷ writes) = IsUtf8 write.0 × AreTexts writes

-- the writes, oldest first, and how many there may be, of how many bytes of paths and contents
pub record LogState : Type 0 where
  pub written : List (List ℕ × List ℕ)
  pub files_room : ℕ
  pub bytes_room : ℕ

-- one more write is within both rooms
abbrev pub HasRoom : LogState → List ℕ → List ℕ → Type 0
HasRoom log path bytes = (length log.written < log.files_room) × (bytes_of log.written + length path + length bytes ≤ log.bytes_room)

-- whether a set of names has one
abbrev pub has : BTreeSet (List ℕ) → List ℕ → Bool
has found name = contains (slice_cmp nat_cmp) found name

-- a set of names below a folder gets the one that a path has there, if it has one
pub record AddsName (dir path : List ℕ) (old new : BTreeSet (List ℕ)) : Type 0 where
  pub names : (name : List ℕ) → name ≢ [] → has new name ≡ (pointwise nat_eq (dir ++ 47 ∷ name) path || has old name)
  pub empty : has new [] ≡ has old []
