-- Numbers of a list, marked.
use Rattle.std.specs.Prelude.{◌≡◌, ℕ, List, Bool, Some, slice_get}
use Rattle.linked_code.specs.Kept.{is_among}

-- each mark tells whether its number is in the list
pub record AreMarked (list : List ℕ) (marks : List Bool) : Type 0 where
  pub each : (k : ℕ) (b : Bool) → slice_get marks k ≡ Some b → b ≡ is_among list k
