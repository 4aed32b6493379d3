-- The first of several answers.
use Rattle.std.specs.Prelude.{ℕ, ◌+◌, List, [], ◌∷◌, ◌++◌, Option, Some, None}
use Rattle.std.specs.Option.{option_or}

-- the first answer that there is along a list
unfoldable pub first : {A B : Type 0} → (A → Option B) → List A → Option B
first f [] = None
first f (x ∷ xs) = option_or (f x) (first f xs)

-- what each item gives, by its number, joined in order
unfoldable pub flat_from : {A B : Type 0} → (ℕ → A → List B) → ℕ → List A → List B
flat_from f at [] = []
flat_from f at (x ∷ xs) = f at x ++ flat_from f (at + 1) xs
