-- The methods of a set by one number each, in the order of the classes.
use Rattle.std.specs.Prelude.{◌≡◌, ◌+◌, ℕ, List, Option, Some, None, length, map, take, flat_map, slice_get}
use Rattle.class_model.specs.declared.class.ClassDef.{ClassDef}
use Rattle.set_lookups.specs.Lookups.{Member}
use Rattle.run_state.specs.State.{Method}
use Rattle.run_state.specs.SetLooks.{method_of}

abbrev pub class_methods : ClassDef → List Method
class_methods class = map (method_of class) class.methods

abbrev pub set_methods : List ClassDef → List Method
set_methods set = flat_map class_methods set

-- the number of a class's first method, and of a member that is a method
abbrev pub methods_before : List ClassDef → ℕ → ℕ
methods_before set class = length (set_methods (take class set))

abbrev pub method_number : List ClassDef → Member → ℕ
method_number set member = methods_before set member.class + member.index

-- a number leads to a method, where there is one
abbrev pub Shows : List ClassDef → Option Method → Option ℕ → Type 0
Shows set found None = found ≡ None
Shows set found (Some n) = (method : Method) × (found ≡ Some method) × (slice_get (set_methods set) n ≡ Some method)
