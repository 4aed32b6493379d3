-- Frames that are looked up in the order of their instructions.
use Rattle.std.proofs.Common.{◌≡◌, ℕ, zero, suc, ◌<◌, ◌≤◌, Bool, true, false, List, [], ◌∷◌, length, get_or, refl, sym, ap, ◌∙◌, Some, None, cond, eqb, eq-eqb, arith, ◌⊎◌, inl, inr}
use Rattle.std.specs.Prelude.{slice_get, nat_lt}
use Rattle.std.proofs.lemmas.Bool.{eqb-true, ltb-true, ltb-false, lt-ltb, cases_lt}
use Rattle.std.proofs.lemmas.Option.{same_Some, get_or_from_slice_get}
use Rattle.std.specs.List.Sorted.{IsNonDecreasingBy, IsPartitionPoint, IsPartitionedBy}
use Rattle.class_model.specs.declared.class.Frame.{Frame}
use Rattle.verifier.specs.Set.{place_of}
use Rattle.verifier.specs.Place.{IsPlace}
use Rattle.verifier.specs.Frames.{declared_at}

unlike : (v : Bool) (a b : ℕ) → eqb a b ≡ v → (a ≡ b → ⊥) → eqb a b ≡ false
unlike true a b e h = absurd (h (eqb-true a b e))
unlike false a b e h = e

skip_first : (row : ℕ × Frame) (rows : List (ℕ × Frame)) (at : ℕ) → (row.0 ≡ at → ⊥) → declared_at (row ∷ rows) at ≡ declared_at rows at
skip_first row rows at h = ap (λ b. cond b (Some row.1) (declared_at rows at)) (unlike (eqb row.0 at) row.0 at refl h)

take_first : (row : ℕ × Frame) (rows : List (ℕ × Frame)) (at : ℕ) → row.0 ≡ at → declared_at (row ∷ rows) at ≡ Some row.1
take_first row rows at h = ap (λ b. cond b (Some row.1) (declared_at rows at)) (eq-eqb row.0 at h)

-- no row is for the instruction
pub none_declared : (rows : List (ℕ × Frame)) (at : ℕ) → ((k : ℕ) (d : ℕ × Frame) → k < length rows → (get_or rows k d).0 ≡ at → ⊥) → declared_at rows at ≡ None
none_declared [] at h = refl
none_declared (row ∷ rows) at h =
    skip_first row rows at (h 0 row (omega arith)) ∙ none_declared rows at (λ k d l. h (suc k) d (omega arith))

-- the row of a place is the first for the instruction
pub row_declared : (rows : List (ℕ × Frame)) (at place : ℕ) (row : ℕ × Frame) → ((k : ℕ) (d : ℕ × Frame) → k < place → (get_or rows k d).0 < at) → slice_get rows place ≡ Some row → row.0 ≡ at → declared_at rows at ≡ Some row.1
row_declared [] at place row h e n = cc
row_declared (first ∷ rows) at zero row h e n =
    let same = same_Some first row e in
    take_first first rows at (ap (λ r. r.0) same ∙ n) ∙ ap (λ r. Some r.1) same
row_declared (first ∷ rows) at (suc place) row h e n =
    skip_first first rows at (λ z. let l = h 0 first (omega arith) in omega arith) ∙ row_declared rows at place row (λ k d l. h (suc k) d (omega arith)) e n

abbrev pub is_before : ℕ → ℕ × Frame → Bool
is_before at row = nat_lt row.0 at

-- rows in order are parted by a number
pub parted : (rows : List (ℕ × Frame)) (at : ℕ) → IsNonDecreasingBy place_of rows → IsPartitionedBy (is_before at) rows
parted rows at h = λ i j d l within before. let z = h i j d l within in let b = ltb-true (get_or rows j d).0 at before in lt-ltb (get_or rows i d).0 at (omega arith)

pub is_place : (rows : List (ℕ × Frame)) (at place : ℕ) → IsNonDecreasingBy place_of rows → IsPartitionPoint (λ y. is_before at y ≡ true) (λ y. is_before at y ≡ false) rows place → IsPlace rows at place
is_place rows at place h p = record {
  before = λ k d l. ltb-true (get_or rows k d).0 at (p.0 k d (omega arith) l);
  behind = λ k d l within. ltb-false (get_or rows k d).0 at (p.1 k d l within);
  ordered = h;
}

unequal_at : (rows : List (ℕ × Frame)) (at place k : ℕ) (d : ℕ × Frame) → IsPlace rows at place → k < length rows → ((place ≤ k) → (get_or rows place d).0 ≡ at → ⊥) → (k < place) ⊎ (place ≤ k) → (get_or rows k d).0 ≡ at → ⊥
unequal_at rows at place k d p within h (inl l) e = absurd (let z = p.before k d l in omega arith)
unequal_at rows at place k d p within h (inr l) e =
    let z = p.behind place d (omega arith) (omega arith) in
    let o = p.ordered place k d l within in
    h l (omega arith)

-- the row of the place is of another instruction
pub other_place : (rows : List (ℕ × Frame)) (at place : ℕ) (row : ℕ × Frame) → IsPlace rows at place → slice_get rows place ≡ Some row → (row.0 ≡ at → ⊥) → declared_at rows at ≡ None
other_place rows at place row p e n =
    none_declared rows at (λ k d within. unequal_at rows at place k d p within (λ l same. n (sym (ap (λ r. r.0) (get_or_from_slice_get rows place row d e)) ∙ same)) (cases_lt k place))

past_end : (rows : List (ℕ × Frame)) (k : ℕ) → slice_get rows k ≡ None → length rows ≤ k
past_end [] k h = omega arith
past_end (row ∷ rows) zero h = cc
past_end (row ∷ rows) (suc k) h = let l = past_end rows k h in omega arith

-- there is no row at the place
pub no_place : (rows : List (ℕ × Frame)) (at place : ℕ) → IsPlace rows at place → slice_get rows place ≡ None → declared_at rows at ≡ None
no_place rows at place p e =
    let h = past_end rows place e in
    none_declared rows at (λ k d within same. let z = p.before k d (omega arith) in absurd (omega arith))

pub this_place : (rows : List (ℕ × Frame)) (at place : ℕ) (row : ℕ × Frame) → IsPlace rows at place → slice_get rows place ≡ Some row → row.0 ≡ at → declared_at rows at ≡ Some row.1
this_place rows at place row p e n = row_declared rows at place row p.before e n
