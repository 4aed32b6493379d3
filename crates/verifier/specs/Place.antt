-- Where a number stands among rows in order.
use Rattle.std.specs.Prelude.{ℕ, ◌<◌, ◌≤◌, List, length, slice_index_or}
use Rattle.std.specs.List.Sorted.{IsNonDecreasingBy}
use Rattle.class_model.specs.declared.class.Frame.{Frame}
use Rattle.verifier.specs.Set.{place_of}

-- rows up to a place are for instructions before this one, and those from it on are not
pub record IsPlace (rows : List (ℕ × Frame)) (at place : ℕ) : Type 0 where
  pub before : (k : ℕ) (d : ℕ × Frame) → k < place → (slice_index_or rows k d).0 < at
  pub behind : (k : ℕ) (d : ℕ × Frame) → place ≤ k → k < length rows → at ≤ (slice_index_or rows k d).0
  pub ordered : IsNonDecreasingBy place_of rows
