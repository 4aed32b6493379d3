-- A set of classes as a list, its classes by number and by name, and which class is below which.
use Rattle.std.specs.Prelude.{◌≡◌, ℕ, ◌||◌, ◌==◌, zero, suc, Bool, nat_eq, List, [], ◌++◌, length, Option, Some, None, slice_get, option_to_list, filter_map, position}
use Rattle.std.specs.List.{list_any}
use Rattle.std.specs.Cmp.Lexicographic.{pointwise}
use Rattle.class_model.specs.declared.class.ClassDef.{ClassDef}

abbrev pub same_name : List ℕ → List ℕ → Bool
same_name = pointwise nat_eq

-- the number of the first class that has this name
abbrev pub find_class : List ClassDef → List ℕ → Option ℕ
find_class set name = position (λ class. same_name class.name name) set

-- the names that a class gives as superclass and as interfaces
abbrev pub names_above : ClassDef → List (List ℕ)
names_above class = option_to_list class.super_name ++ class.interfaces

-- the superclass that a class has in the set
abbrev pub super_of : List ClassDef → ClassDef → List ℕ
super_of set class = filter_map (find_class set) (option_to_list class.super_name)

-- the interfaces that a class names and that are in the set, in its order
abbrev pub interfaces_of : List ClassDef → ClassDef → List ℕ
interfaces_of set class = filter_map (find_class set) class.interfaces

abbrev pub at_class : {A : Type 0} → (ClassDef → List A) → Option ClassDef → List A
at_class f None = []
at_class f (Some class) = f class

-- the classes directly above the one with this number: its superclass, then its interfaces
abbrev pub above : List ClassDef → ℕ → List ℕ
above set low = at_class (λ class. super_of set class ++ interfaces_of set class) (slice_get set low)

-- the class `low` names the class `high` as superclass or interface
abbrev pub Direct : List ClassDef → ℕ → ℕ → Type 0
Direct set low high = (k : ℕ) × (slice_get (above set low) k ≡ Some high)

-- the class `low` is the class `high` or is below it
pub data Subtype (set : List ClassDef) : ℕ → ℕ → Type 0 where
  same : {low : ℕ} → Subtype set low low
  up : {low middle high : ℕ} → Direct set low middle → Subtype set middle high → Subtype set low high

-- `high` is reached from `low` in at most so many steps
abbrev pub reaches : ℕ → List ClassDef → ℕ → ℕ → Bool
reaches zero set low high = low == high
reaches (suc steps) set low high = (low == high) || list_any (λ middle. reaches steps set middle high) (above set low)

-- the computing test: no way up a set without cycles has more steps than it has classes
unfoldable pub is_subtype : List ClassDef → ℕ → ℕ → Bool
is_subtype set low high = reaches (length set) set low high
