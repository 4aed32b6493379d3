-- The first of several answers.
use Rattle.std.specs.Prelude.{ℕ, ◌+◌, Bool, false, List, [], ◌∷◌, Option, Some, None, if◌then◌else◌}
use Rattle.std.specs.Option.{option_or}
use Rattle.class_model.specs.declared.class.ClassDef.{ClassDef}

-- the first answer that there is along a list
unfoldable pub first : {A B : Type 0} → (A → Option B) → List A → Option B
first f [] = None
first f (x ∷ xs) = option_or (f x) (first f xs)

-- the same, where the items are numbered from a number on
unfoldable pub first_from : {A B : Type 0} → (ℕ → A → Option B) → ℕ → List A → Option B
first_from f at [] = None
first_from f at (x ∷ xs) = option_or (f at x) (first_from f (at + 1) xs)

-- the name of a class, where a test of it by its number holds
abbrev pub name_if : (ℕ → ClassDef → Bool) → ℕ → ClassDef → Option (List ℕ)
name_if test number class = if test number class then Some class.name else None

-- the name of the first class of a set for which a test holds
abbrev pub first_class : (ℕ → ClassDef → Bool) → List ClassDef → Option (List ℕ)
first_class test set = first_from (name_if test) 0 set

-- a test holds of the value, where there is one
abbrev pub holds_of : {A : Type 0} → (A → Bool) → Option A → Bool
holds_of test None = false
holds_of test (Some x) = test x
