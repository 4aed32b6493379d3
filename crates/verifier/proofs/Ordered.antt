-- Frames in the order of their instructions.
use Rattle.std.proofs.Common.{ℕ, ◌-◌, ◌<◌, ◌≤◌, List, length, get_or, arith}
use Rattle.std.specs.List.{AllAdjacentBelow}
use Rattle.std.specs.List.Sorted.{IsNonDecreasingBy}
use Rattle.std.proofs.lemmas.List.Sorted.{IsNonDecreasingBy-from_all_adjacent}
use Rattle.class_model.specs.declared.class.Frame.{Frame}
use Rattle.verifier.specs.Set.{place_of}

-- the first frames are in order
abbrev pub OrderedBelow : List (ℕ × Frame) → ℕ → Type 0
OrderedBelow rows n = AllAdjacentBelow (λ x y. place_of x ≤ place_of y) rows n

pub ordered : (rows : List (ℕ × Frame)) → OrderedBelow rows (length rows) → IsNonDecreasingBy place_of rows
ordered rows h = IsNonDecreasingBy-from_all_adjacent place_of rows h

pub unordered : (rows : List (ℕ × Frame)) (i : ℕ) (d : ℕ × Frame) → 0 < i → i < length rows → (get_or rows i d).0 < (get_or rows (i - 1) d).0 → IsNonDecreasingBy place_of rows → ⊥
unordered rows i d some h less up = let o = up (i - 1) i d (omega arith) h in omega arith
