-- The numbers of the items of a list that pass a test.
use Rattle.std.specs.Prelude.{◌≡◌, ℕ, ◌&&◌, Bool, List, ltb, slice_get}
use Rattle.set_lookups.specs.First.{holds_of}
use Rattle.linked_code.specs.Kept.{is_among}

-- of the first items so many
pub record Picked {A : Type 0} (test : A → Bool) (xs : List A) (picked : List ℕ) (count : ℕ) : Type 0 where
  pub are : (b : ℕ) → is_among picked b ≡ (ltb b count && holds_of test (slice_get xs b))

-- of all items
abbrev pub AllPicked : {A : Type 0} → (A → Bool) → List A → List ℕ → Type 0
AllPicked test xs picked = (b : ℕ) → is_among picked b ≡ holds_of test (slice_get xs b)
