-- Classes that leave an abstract method open. This project's own rule, after JLS 8.1.1.1.
use Rattle.std.specs.Prelude.{ℕ, ◌&&◌, ◌||◌, Bool, false, not, List, [], ◌∷◌, ◌++◌, length, Option, slice_get, if◌then◌else◌}
use Rattle.std.specs.List.{list_any}
use Rattle.class_model.specs.declared.class.MethodDef.{MethodDef}
use Rattle.class_model.specs.declared.class.ClassDef.{ClassDef}
use Rattle.set_lookups.specs.Above.{same_name}
use Rattle.set_lookups.specs.Flags.{is_abstract, is_interface, is_inherited}
use Rattle.set_lookups.specs.First.{first_class, holds_of}
use Rattle.set_lookups.specs.Lookups.{supers, interfaces_at, levels, superinterfaces, select_by}
use Rattle.class_set.specs.FinalSuper.{classes_above, methods_at}
use Rattle.class_set.specs.Upwards.{methods_of}
use Rattle.class_set.specs.Core.{init_name}
use Rattle.class_set.specs.Calls.{lacks_body}

-- an instance method that is neither private nor `<init>`, and for which selection from this class finds none or an abstract one
abbrev pub is_open : List ClassDef → ℕ → MethodDef → Bool
is_open set number method = is_inherited method && (not (same_name method.name init_name) && lacks_body set (select_by set method.name method.desc number))

abbrev pub is_concrete : ClassDef → Bool
is_concrete class = not (is_abstract class.flags) && not (is_interface class)

-- a class that is neither abstract nor an interface, where a method of it, of a superclass or of a superinterface is open
abbrev pub leaves_open : List ClassDef → ℕ → ClassDef → Bool
leaves_open set number class = is_concrete class && list_any (is_open set number) (methods_at set (supers set number ++ superinterfaces set number))

-- abstract: a class leaves an abstract method open
unfoldable pub abstract_left : List ClassDef → Option (List ℕ)
abstract_left set = first_class (leaves_open set) set

-- the class of this number is neither abstract nor an interface
abbrev pub concrete_at : List ClassDef → ℕ → Bool
concrete_at set number = holds_of is_concrete (slice_get set number)

-- a method that a superclass has from itself or from its interfaces is open in a class
abbrev pub open_at : List ClassDef → ℕ → ℕ → Bool
open_at set number higher = list_any (is_open set number) (methods_of set higher) || list_any (is_open set number) (methods_at set (levels (length set) set (interfaces_at set higher)))

-- the same of the superclasses in turn, up to the first that is neither abstract nor an interface
abbrev pub open_below : List ClassDef → ℕ → List ℕ → Bool
open_below set number [] = false
open_below set number (higher ∷ highers) = if concrete_at set higher then false else (open_at set number higher || open_below set number highers)

-- a class that is neither abstract nor an interface, where a method is open that it does not have from a superclass of that kind
abbrev pub leaves_new_open : List ClassDef → ℕ → ClassDef → Bool
leaves_new_open set number class = is_concrete class && (open_at set number number || open_below set number (classes_above set number))

-- the first class that leaves a method open without having it from another class that may
unfoldable pub newly_left : List ClassDef → Option (List ℕ)
newly_left set = first_class (leaves_new_open set) set
