-- The classes from a class upwards, by their numbers.
use Rattle.std.specs.Prelude.{◌≡◌, ◌<◌, ℕ, zero, suc, List, [], ◌∷◌, length, Option, Some, None, slice_get, option_and_then}
use Rattle.class_model.specs.declared.class.ClassDef.{ClassDef}
use Rattle.set_lookups.specs.Above.{find_class}

-- the superclass of a class, where it has one
abbrev pub super_found : List ClassDef → ClassDef → Option ℕ
super_found set class = option_and_then (find_class set) class.super_name

abbrev pub next_up : List ClassDef → ℕ → Option ℕ
next_up set number = option_and_then (super_found set) (slice_get set number)

-- a class and its superclasses, so many in all
abbrev pub going_up : ℕ → List ClassDef → Option ℕ → List ℕ
going_up zero set next = []
going_up (suc k) set None = []
going_up (suc k) set (Some number) = number ∷ going_up k set (next_up set number)

abbrev pub AreClasses : List ClassDef → List ℕ → Type 0
AreClasses set numbers = (k n : ℕ) → slice_get numbers k ≡ Some n → n < length set
