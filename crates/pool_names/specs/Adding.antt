-- Putting things into a constant pool that grows: an entry that is there is found again, and else stands last. This
-- order and these indices are this project's own; JVMS 4.4 leaves them open.
use Rattle.std.specs.Prelude.{◌≡◌, ℕ, ◌+◌, List, [], ◌∷◌, ◌++◌, length, Option, Some, None, Result, Ok, Err, nat_lt, if◌then◌else◌}
use Rattle.std.specs.Int.{w16, w32, to_be_bytes}
use Rattle.const_pool.specs.declared.entry.Entry.{Entry}
use Rattle.const_pool.specs.declared.editor.PoolStop.{PoolStop}
use Rattle.const_pool.specs.declared.editor.PoolStop.TheVariants as stop
use Rattle.const_pool.specs.Pool.{Pool, slots_of, entry_at}
use Rattle.const_pool.specs.Editor.{last_index}
use Rattle.pool_names.specs.Same.{is_slot}

-- Why something has no bytes: a number is out of the range of its field, or the constant pool would need an index over
-- 65,534, with the last index of the first entry that does not fit.
pub data Unfit : Type 0 where
  OutOfRange : Unfit
  Past : (last : ℕ) → Unfit

-- What is put into a pool gives the pool afterwards and an answer, an index or bytes that hold indices.
abbrev pub Adding : Type 0 → Type 0
Adding A = Pool → Result (Pool × A) Unfit

-- what comes next goes on from the pool so far
abbrev pub bind : {A B : Type 0} → Result (Pool × A) Unfit → (A → Adding B) → Result (Pool × B) Unfit
bind (Ok x) f = f x.1 x.0
bind (Err last) f = Err last

infixl 10 ◌>>=◌
abbrev pub ◌>>=◌ : {A B : Type 0} → Adding A → (A → Adding B) → Adding B
(m >>= f) p = bind (m p) f

abbrev pub done : {A : Type 0} → A → Adding A
done a p = Ok (p, a)

-- What has no bytes: a number that its field cannot hold. What a program holds is in the range of its type, and counts and
-- lengths are judged before, so nothing that is written has any such part.
abbrev pub unspelled : {A : Type 0} → Adding A
unspelled p = Err OutOfRange

-- ---- numbers, the highest byte first

unfoldable pub spell_u16 : ℕ → Adding (List ℕ)
spell_u16 n = if nat_lt n 65536 then done (to_be_bytes w16 n) else unspelled

unfoldable pub spell_u32 : ℕ → Adding (List ℕ)
spell_u32 n = if nat_lt n 4294967296 then done (to_be_bytes w32 n) else unspelled

-- ---- an entry

-- the index of the first equal entry of a pool whose first index is k
abbrev pub index_from : ℕ → Entry → Pool → Option ℕ
index_from k e [] = None
index_from k e (slot ∷ p) = if is_slot e slot then Some k else index_from (k + 1) e p

abbrev pub found_or_new : Entry → Pool → Option ℕ → Result (Pool × ℕ) Unfit
found_or_new e p (Some k) = Ok (p, k)
found_or_new e p None = if nat_lt 65534 (last_index p e) then Err (Past (last_index p e)) else Ok (p ++ slots_of e, length p + 1)

-- the index of the first equal entry, else of a new last one
unfoldable pub add_entry : Entry → Adding ℕ
add_entry e p = found_or_new e p (index_from 1 e p)

-- each entry stands once
abbrev pub IsDistinct : Pool → Type 0
IsDistinct p = (e : Entry) (k m : ℕ) → entry_at p k ≡ Some e → entry_at p m ≡ Some e → k ≡ m

-- ---- lists

-- what is spelled one after the other
unfoldable pub spell_each : {A : Type 0} → (A → Adding (List ℕ)) → List A → Adding (List ℕ)
spell_each spell [] = done []
spell_each spell (x ∷ xs) = do
  first ← spell x
  others ← spell_each spell xs
  done (first ++ others)

-- ---- what a call does, by the definition

-- What a call answered, and the pool that it left, are what the definition gives, unless memory ran out.
abbrev pub PutsBy : {X A : Type 0} → (X → A) → Result X PoolStop → Pool → Result (Pool × A) Unfit → Type 0
PutsBy view (Ok x) new spelled = spelled ≡ Ok (new, view x)
PutsBy view (Err (stop.Full last)) new spelled = spelled ≡ Err (Past last)
PutsBy view (Err stop.Memory) new spelled = Unit {0}

abbrev pub Puts : {A : Type 0} → Result A PoolStop → Pool → Result (Pool × A) Unfit → Type 0
Puts {A} result new spelled = PutsBy (λ (x : A). x) result new spelled

-- bytes that are put behind others
abbrev pub behind : List ℕ → Result (Pool × List ℕ) Unfit → Result (Pool × List ℕ) Unfit
behind old (Ok x) = Ok (x.0, old ++ x.1)
behind old (Err last) = Err last

-- the same of a call that puts bytes behind others
abbrev pub Writes : {X : Type 0} → Result X PoolStop → Pool → List ℕ → List ℕ → Result (Pool × List ℕ) Unfit → Type 0
Writes result new old bytes spelled = PutsBy (λ _. bytes) result new (behind old spelled)
