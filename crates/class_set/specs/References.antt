-- The references of a class's code, their texts, and those that do not resolve. This project's own rules.
use Rattle.std.specs.Prelude.{ℕ, ◌==◌, List, [], ◌∷◌, ◌++◌, flat_map, is_none, Option, Some, None, option_to_list, if◌then◌else◌}
use Rattle.class_model.specs.declared.types.BaseType.{BaseType}
use Rattle.class_model.specs.declared.types.BaseType.TheVariants as bases
use Rattle.class_model.specs.declared.types.JType.{JType}
use Rattle.class_model.specs.declared.types.FieldRef.{FieldRef}
use Rattle.class_model.specs.declared.types.MethodRef.{MethodRef}
use Rattle.class_model.specs.declared.insn.Insn.{Insn}
use Rattle.class_model.specs.declared.insn.Insn.TheVariants.{GetStatic, PutStatic, GetField, PutField, Invoke, New}
use Rattle.class_model.specs.declared.class.MethodDef.{MethodDef}
use Rattle.class_model.specs.declared.class.ClassDef.{ClassDef}
use Rattle.class_model.specs.Descriptor.{base_descriptor, field_descriptor, method_descriptor}
use Rattle.set_lookups.specs.First.{first, first_from}
use Rattle.set_lookups.specs.Lookups.{resolve_field, resolve_method}

abbrev pub base_text : BaseType → List ℕ
base_text (bases.Class name) = name
base_text (bases.Primitive primitive) = base_descriptor (bases.Primitive primitive)

-- a class by its name, an array by its descriptor
abbrev pub class_text : JType → List ℕ
class_text ty = if ty.depth == 0 then base_text ty.base else field_descriptor ty

-- class, '.', name, and the descriptor of the type
abbrev pub field_text : FieldRef → List ℕ
field_text field = field.class ++ 46 ∷ field.name ++ field_descriptor field.ty

abbrev pub method_text : MethodRef → List ℕ
method_text method = class_text method.class ++ 46 ∷ method.name ++ method_descriptor method.desc

-- what an instruction names, as it is told; nothing for one that names no member and is no `new`
abbrev pub insn_text : Insn → List ℕ
insn_text (GetStatic field) = field_text field
insn_text (PutStatic field) = field_text field
insn_text (GetField field) = field_text field
insn_text (PutField field) = field_text field
insn_text (Invoke kind method) = method_text method
insn_text (New class) = class
insn_text _ = []

abbrev pub code_insns : MethodDef → List Insn
code_insns method = flat_map (λ code. code.insns) (option_to_list method.code)

-- the instructions of a class, in the order of the file
abbrev pub class_insns : ClassDef → List Insn
class_insns class = flat_map code_insns class.methods

abbrev pub lacks_field : List ClassDef → FieldRef → Option (List ℕ)
lacks_field set field = if is_none (resolve_field set field) then Some (field_text field) else None

abbrev pub lacks_method : List ClassDef → MethodRef → Option (List ℕ)
lacks_method set method = if is_none (resolve_method set method) then Some (method_text method) else None

unfoldable pub if_unresolved : List ClassDef → Insn → Option (List ℕ)
if_unresolved set (GetStatic field) = lacks_field set field
if_unresolved set (PutStatic field) = lacks_field set field
if_unresolved set (GetField field) = lacks_field set field
if_unresolved set (PutField field) = lacks_field set field
if_unresolved set (Invoke kind method) = lacks_method set method
if_unresolved set _ = None

-- unresolved: a field or method reference does not resolve
unfoldable pub unresolved : List ClassDef → Option (List ℕ)
unresolved set = first_from (λ current class. first (if_unresolved set) (class_insns class)) 0 set
