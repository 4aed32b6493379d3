-- The classes that have to be in a set: two of one name, and one that is named and absent. This project's own rules.
use Rattle.std.specs.Prelude.{ℕ, List, [], ◌∷◌, ◌++◌, map, flat_map, is_none, Option, Some, None, option_to_list, if◌then◌else◌}
use Rattle.std.specs.List.{list_any}
use Rattle.class_model.specs.declared.types.BaseType.{BaseType}
use Rattle.class_model.specs.declared.types.BaseType.TheVariants as bases
use Rattle.class_model.specs.declared.types.JType.{JType}
use Rattle.class_model.specs.declared.types.MethodDesc.{MethodDesc}
use Rattle.class_model.specs.declared.types.FieldRef.{FieldRef}
use Rattle.class_model.specs.declared.types.MethodRef.{MethodRef}
use Rattle.class_model.specs.declared.insn.Insn.{Insn}
use Rattle.class_model.specs.declared.insn.Insn.TheVariants.{GetStatic, PutStatic, GetField, PutField, Invoke, New, ANewArray, CheckCast, InstanceOf, MultiNewArray}
use Rattle.class_model.specs.declared.class.VType.{VType}
use Rattle.class_model.specs.declared.class.VType.TheVariants.{Ref}
use Rattle.class_model.specs.declared.class.Frame.{Frame}
use Rattle.class_model.specs.declared.class.Handler.{Handler}
use Rattle.class_model.specs.declared.class.CodeDef.{CodeDef}
use Rattle.class_model.specs.declared.class.FieldDef.{FieldDef}
use Rattle.class_model.specs.declared.class.MethodDef.{MethodDef}
use Rattle.class_model.specs.declared.class.ClassDef.{ClassDef}
use Rattle.set_lookups.specs.Above.{same_name, find_class}
use Rattle.set_lookups.specs.First.{first}

-- the first name in a list that stands in it again
unfoldable pub first_again : List (List ℕ) → Option (List ℕ)
first_again [] = None
first_again (name ∷ names) = if list_any (same_name name) names then Some name else first_again names

-- duplicate: two classes have one name
unfoldable pub duplicate : List ClassDef → Option (List ℕ)
duplicate set = first_again (map (λ class. class.name) set)

abbrev pub one_name : List ℕ → List (List ℕ)
one_name name = name ∷ []

abbrev pub base_names : BaseType → List (List ℕ)
base_names (bases.Class name) = one_name name
base_names (bases.Primitive primitive) = []

abbrev pub type_names : JType → List (List ℕ)
type_names ty = base_names ty.base

abbrev pub desc_names : MethodDesc → List (List ℕ)
desc_names desc = flat_map type_names desc.params ++ flat_map type_names (option_to_list desc.result)

abbrev pub field_ref_names : FieldRef → List (List ℕ)
field_ref_names field = one_name field.class ++ type_names field.ty

abbrev pub method_ref_names : MethodRef → List (List ℕ)
method_ref_names method = type_names method.class ++ desc_names method.desc

abbrev pub insn_names : Insn → List (List ℕ)
insn_names (GetStatic field) = field_ref_names field
insn_names (PutStatic field) = field_ref_names field
insn_names (GetField field) = field_ref_names field
insn_names (PutField field) = field_ref_names field
insn_names (Invoke kind method) = method_ref_names method
insn_names (New class) = one_name class
insn_names (ANewArray ty) = type_names ty
insn_names (CheckCast ty) = type_names ty
insn_names (InstanceOf ty) = type_names ty
insn_names (MultiNewArray ty dimensions) = type_names ty
insn_names _ = []

abbrev pub vtype_names : VType → List (List ℕ)
vtype_names (Ref ty) = type_names ty
vtype_names _ = []

abbrev pub frame_names : Frame → List (List ℕ)
frame_names frame = flat_map vtype_names frame.locals ++ flat_map vtype_names frame.stack

abbrev pub row_names : ℕ × Frame → List (List ℕ)
row_names row = frame_names row.1

abbrev pub handler_names : Handler → List (List ℕ)
handler_names handler = flat_map one_name (option_to_list handler.caught)

abbrev pub code_names : CodeDef → List (List ℕ)
code_names code = flat_map insn_names code.insns ++ (flat_map handler_names code.handlers ++ flat_map row_names code.frames)

abbrev pub method_names : MethodDef → List (List ℕ)
method_names method = desc_names method.desc ++ flat_map code_names (option_to_list method.code)

abbrev pub field_names : FieldDef → List (List ℕ)
field_names field = type_names field.ty

-- the classes that have to be there, in the order of the file; those that Exceptions and InnerClasses name need not be
abbrev pub needed : ClassDef → List (List ℕ)
needed class = flat_map one_name (option_to_list class.super_name) ++ (flat_map one_name class.interfaces ++ (flat_map field_names class.fields ++ flat_map method_names class.methods))

abbrev pub if_missing : List ClassDef → List ℕ → Option (List ℕ)
if_missing set name = if is_none (find_class set name) then Some name else None

-- missing: a class that is named is absent
unfoldable pub missing : List ClassDef → Option (List ℕ)
missing set = first (if_missing set) (flat_map needed set)

-- a name that is not among these
abbrev pub if_absent : List (List ℕ) → List ℕ → Option (List ℕ)
if_absent present name = if list_any (same_name name) present then None else Some name
