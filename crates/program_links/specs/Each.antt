-- Lists that go item by item.
use Rattle.std.specs.Prelude.{◌≡◌, ◌<◌, ℕ, List, Some, length, slice_get}

pub record HasOne {A B : Type 0} (R : A → B → Type 0) (ys : List B) (k : ℕ) (x : A) : Type 0 where
  pub item : B
  pub at : slice_get ys k ≡ Some item
  pub is : R x item

-- the first items of a list have theirs in another, and no others are there
pub record EachTo {A B : Type 0} (R : A → B → Type 0) (xs : List A) (ys : List B) (count : ℕ) : Type 0 where
  pub many : length ys ≡ count
  pub each : (k : ℕ) (x : A) → k < count → slice_get xs k ≡ Some x → HasOne R ys k x

-- a list whose items go by their numbers
pub record Numbered {B : Type 0} (R : ℕ → B → Type 0) (ys : List B) (count : ℕ) : Type 0 where
  pub many : length ys ≡ count
  pub each : (k : ℕ) (y : B) → slice_get ys k ≡ Some y → R k y
