-- Classes that extend, implement or override what they cannot. This project's own rule, after JVMS 4.10.
use Rattle.std.specs.Prelude.{ℕ, ◌&&◌, ◌||◌, Bool, not, List, flat_map, Option, slice_get, option_to_list}
use Rattle.std.specs.List.{list_any}
use Rattle.class_model.specs.declared.class.MethodDef.{MethodDef}
use Rattle.class_model.specs.declared.class.ClassDef.{ClassDef}
use Rattle.set_lookups.specs.Above.{same_name}
use Rattle.set_lookups.specs.Same.{same_desc}
use Rattle.set_lookups.specs.Flags.{is_final, is_interface, is_inherited}
use Rattle.set_lookups.specs.Lookups.{supers, super_at, interfaces_at}
use Rattle.set_lookups.specs.First.{first_class}

-- the classes of these numbers
abbrev pub classes_at : List ClassDef → List ℕ → List ClassDef
classes_at set numbers = flat_map (λ number. option_to_list (slice_get set number)) numbers

abbrev pub methods_at : List ClassDef → List ℕ → List MethodDef
methods_at set numbers = flat_map (λ class. class.methods) (classes_at set numbers)

-- a final method that a class below cannot have again
abbrev pub is_kept : MethodDef → MethodDef → Bool
is_kept method other = is_final other.flags && is_inherited other && same_name other.name method.name && same_desc other.desc method.desc

-- the superclasses of a class, the class itself left out
abbrev pub classes_above : List ClassDef → ℕ → List ℕ
classes_above set number = flat_map (supers set) (super_at set number)

-- an instance method that is not private has the name and descriptor of a final one of a superclass that is neither private nor static
abbrev pub overrides_final : List ClassDef → ℕ → MethodDef → Bool
overrides_final set number method = is_inherited method && list_any (is_kept method) (methods_at set (classes_above set number))

-- final super: it extends a final class or an interface, implements a class, or overrides a final method
abbrev pub has_final_super : List ClassDef → ℕ → ClassDef → Bool
has_final_super set number class =
    list_any (λ higher. is_final higher.flags || is_interface higher) (classes_at set (super_at set number))
    || (list_any (λ higher. not (is_interface higher)) (classes_at set (interfaces_at set number))
    || list_any (overrides_final set number) class.methods)

unfoldable pub final_super : List ClassDef → Option (List ℕ)
final_super set = first_class (has_final_super set) set
