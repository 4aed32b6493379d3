-- What a class names that its written form has in its constant pool: numbers, literals, classes and members, each time that it names it;
-- outside InnerClasses and Exceptions. Names within descriptors, keys of switches, steps of iinc and types of newarray are left out.
use Rattle.std.specs.Prelude.{ℕ, ℤ, List, [], ◌∷◌, ◌++◌, option_to_list, if◌then◌else◌}
use Rattle.std.specs.List.{flat_map}
use Rattle.class_model.specs.declared.types.JType.{JType}
use Rattle.class_model.specs.declared.types.BaseType.TheVariants as bases
use Rattle.class_model.specs.declared.types.FieldRef.{FieldRef}
use Rattle.class_model.specs.declared.types.MethodRef.{MethodRef}
use Rattle.class_model.specs.declared.insn.Insn.{Insn}
use Rattle.class_model.specs.declared.insn.Insn.TheVariants.{PushInt, PushLong, PushString, GetStatic, PutStatic, GetField, PutField, Invoke, New, ANewArray, CheckCast, InstanceOf, MultiNewArray}
use Rattle.class_model.specs.declared.class.Constant.{Constant}
use Rattle.class_model.specs.declared.class.Constant.TheVariants as constants
use Rattle.class_model.specs.declared.class.VType.{VType}
use Rattle.class_model.specs.declared.class.VType.TheVariants.{Ref}
use Rattle.class_model.specs.declared.class.Frame.{Frame}
use Rattle.class_model.specs.declared.class.Handler.{Handler}
use Rattle.class_model.specs.declared.class.CodeDef.{CodeDef}
use Rattle.class_model.specs.declared.class.FieldDef.{FieldDef}
use Rattle.class_model.specs.declared.class.MethodDef.{MethodDef}
use Rattle.class_model.specs.declared.class.ClassDef.{ClassDef}
use Rattle.profile_check.specs.Flags.{has, static_flag}

pub data Item : Type 0 where
  IntItem : ℤ → Item
  LongItem : ℤ → Item
  TextItem : List ℕ → Item
  ClassItem : JType → Item
  FieldItem : FieldRef → Item
  MethodItem : MethodRef → Item

-- ---- code

unfoldable pub name_items : List ℕ → List Item
name_items name = ClassItem (record { depth = 0; base = bases.Class name }) ∷ []

unfoldable pub type_items : JType → List Item
type_items ty = ClassItem ty ∷ []

abbrev pub field_ref_items : FieldRef → List Item
field_ref_items field = name_items field.class ++ FieldItem field ∷ []

abbrev pub method_ref_items : MethodRef → List Item
method_ref_items method = type_items method.class ++ MethodItem method ∷ []

abbrev pub insn_items : Insn → List Item
insn_items (PushInt n) = IntItem n ∷ []
insn_items (PushLong n) = LongItem n ∷ []
insn_items (PushString text) = TextItem text ∷ []
insn_items (GetStatic field) = field_ref_items field
insn_items (PutStatic field) = field_ref_items field
insn_items (GetField field) = field_ref_items field
insn_items (PutField field) = field_ref_items field
insn_items (Invoke kind method) = method_ref_items method
insn_items (New class) = name_items class
insn_items (ANewArray ty) = type_items ty
insn_items (CheckCast ty) = type_items ty
insn_items (InstanceOf ty) = type_items ty
insn_items (MultiNewArray ty dimensions) = type_items ty
insn_items _ = []

abbrev pub handler_items : Handler → List Item
handler_items handler = flat_map name_items (option_to_list handler.caught)

abbrev pub vtype_items : VType → List Item
vtype_items (Ref ty) = type_items ty
vtype_items _ = []

abbrev pub frame_items : ℕ × Frame → List Item
frame_items row = flat_map vtype_items row.1.locals ++ flat_map vtype_items row.1.stack

abbrev pub code_items : CodeDef → List Item
code_items code = flat_map insn_items code.insns ++ flat_map handler_items code.handlers ++ flat_map frame_items code.frames

-- ---- members and the class

abbrev pub constant_items : Constant → List Item
constant_items (constants.Int n) = IntItem n ∷ []
constant_items (constants.Long n) = LongItem n ∷ []
constant_items (constants.Text text) = TextItem text ∷ []

-- the constant of a static field; that of an instance field is not written
abbrev pub field_items : FieldDef → List Item
field_items field = if has field.flags static_flag then flat_map constant_items (option_to_list field.constant) else []

abbrev pub method_items : MethodDef → List Item
method_items method = flat_map code_items (option_to_list method.code)

unfoldable pub header_items : ClassDef → List Item
header_items class = name_items class.name ++ flat_map name_items (option_to_list class.super_name) ++ flat_map name_items class.interfaces

unfoldable pub class_items : ClassDef → List Item
class_items class = header_items class ++ flat_map field_items class.fields ++ flat_map method_items class.methods
