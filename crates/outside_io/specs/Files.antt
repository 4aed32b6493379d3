-- The files of a folder, and what its calls answer: this project's own rules.
use Rattle.std.specs.Prelude.{◌≡◌, ◌≢◌, ℕ, ◌<◌, ◌≤◌, ◌⊎◌, ◌↔◌, List, [], ◌∷◌, ◌++◌, length, take, Option, Some, None, Result, Ok, Err, IfSome, IsSome, IsSomeAnd, Contains, ⊤}
use Rattle.std.specs.Ordering.{nat_cmp}
use Rattle.std.specs.Cmp.Lexicographic.{slice_cmp}
use Rattle.std.specs.FinMap.{FinMap, get, insert}
use Rattle.std.specs.List.Sorted.{IsStrictlySortedBy}
use Rattle.outside_io.specs.declared.stop.IoStop.{IoStop}
use Rattle.outside_io.specs.declared.stop.IoStop.TheVariants.{Failed, Memory, Absent, TooMany, TooLong}

-- from the path of each file, as its bytes in UTF-8, to the file's bytes
abbrev pub Files : Type 0
Files = FinMap (slice_cmp nat_cmp) (List ℕ)

-- the most files that a list tells
abbrev pub most_files : ℕ
most_files = 1000000

-- the most bytes that are read of one file
abbrev pub most_bytes : ℕ
most_bytes = 16777216

-- what is told stays told, and the same
abbrev pub Stay : Option Files → Option Files → Type 0
Stay None new = ⊤
Stay (Some old) None = ⊥
Stay (Some old) (Some new) = new ≡ old

-- each path stands once, and they ascend by their bytes
abbrev pub Ascend : List (List ℕ) → Type 0
Ascend paths = IsStrictlySortedBy (slice_cmp nat_cmp) paths

-- these are what stands behind the folder's path and a '/' in the paths of all files that have more behind that
abbrev pub AreBelow : List ℕ → Files → List (List ℕ) → Type 0
AreBelow dir files paths = (path : List ℕ) → Contains paths path ↔ ((path ≢ []) × IsSome (get files (dir ++ 47 ∷ path)))

-- what `list` answers: where the files are told, `TooMany` exactly where over `most_files` of them are below the folder, each told once
abbrev pub Lists : Option Files → List ℕ → Result (List (List ℕ)) IoStop → Type 0
Lists files dir (Ok paths) = Ascend paths × (length paths ≤ most_files) × IfSome files (λ m. AreBelow dir m paths)
Lists files dir (Err (TooMany seen)) = (seen ≡ 1000001) × IfSome files (λ m. (paths : List (List ℕ)) × Ascend paths × (most_files < length paths) × AreBelow dir m paths)
Lists files dir (Err Absent) = ⊥
Lists files dir (Err (TooLong taken)) = ⊥
Lists files dir (Err Failed) = ⊤
Lists files dir (Err Memory) = ⊤

-- what `read` answers
abbrev pub Reads : Option Files → List ℕ → Result (List ℕ) IoStop → Type 0
Reads files path (Ok bytes) = (length bytes ≤ most_bytes) × IfSome files (λ m. get m path ≡ Some bytes)
Reads files path (Err Absent) = IfSome files (λ m. get m path ≡ None)
Reads files path (Err (TooLong taken)) = (taken ≡ 16777217) × IfSome files (λ m. IsSomeAnd (get m path) (λ bytes. most_bytes < length bytes))
Reads files path (Err (TooMany seen)) = ⊥
Reads files path (Err Failed) = ⊤
Reads files path (Err Memory) = ⊤

-- what `write` leaves: after a refusal the files as before, or with a front of the bytes at the path
abbrev pub Writes : Option Files → Option Files → List ℕ → List ℕ → Result (Unit {0}) IoStop → Type 0
Writes None new path bytes result = ⊤
Writes (Some old) None path bytes result = ⊥
Writes (Some old) (Some new) path bytes (Ok done) = new ≡ insert old path bytes
Writes (Some old) (Some new) path bytes (Err stop) = (new ≡ old) ⊎ ((n : ℕ) × (new ≡ insert old path (take n bytes)))
