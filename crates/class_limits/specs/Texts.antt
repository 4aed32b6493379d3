-- The texts of a class file (JVMS 4.4.7), each as its bytes, in the order in which its body first wants them: the class, its
-- superclass and its interfaces; each field with its name, its type and its constant; each method with its name, its
-- descriptor, its code (instructions, handlers, then frames) and what it throws; the source file; inner classes. A member that
-- an instruction names is its class, its name, and its type. The names of attributes are left out: they are short.
use Rattle.std.specs.Prelude.{ℕ, ◌==◌, List, [], ◌∷◌, ◌++◌, Option, Some, None, option_to_list, if◌then◌else◌}
use Rattle.std.specs.List.{flat_map}
use Rattle.modified_utf8.specs.Text.{text_bytes}
use Rattle.class_model.specs.declared.types.BaseType.{BaseType}
use Rattle.class_model.specs.declared.types.BaseType.TheVariants as bases
use Rattle.class_model.specs.declared.types.JType.{JType}
use Rattle.class_model.specs.declared.types.MethodDesc.{MethodDesc}
use Rattle.class_model.specs.declared.types.FieldRef.{FieldRef}
use Rattle.class_model.specs.declared.types.MethodRef.{MethodRef}
use Rattle.class_model.specs.declared.insn.Insn.{Insn}
use Rattle.class_model.specs.declared.insn.Insn.TheVariants.{PushString, GetStatic, PutStatic, GetField, PutField, Invoke, New, ANewArray, CheckCast, InstanceOf, MultiNewArray}
use Rattle.class_model.specs.declared.class.Constant.{Constant}
use Rattle.class_model.specs.declared.class.Constant.TheVariants as constants
use Rattle.class_model.specs.declared.class.VType.{VType}
use Rattle.class_model.specs.declared.class.VType.TheVariants.{Ref}
use Rattle.class_model.specs.declared.class.Frame.{Frame}
use Rattle.class_model.specs.declared.class.Handler.{Handler}
use Rattle.class_model.specs.declared.class.CodeDef.{CodeDef}
use Rattle.class_model.specs.declared.class.FieldDef.{FieldDef}
use Rattle.class_model.specs.declared.class.MethodDef.{MethodDef}
use Rattle.class_model.specs.declared.class.InnerRow.{InnerRow}
use Rattle.class_model.specs.declared.class.ClassDef.{ClassDef}
use Rattle.class_model.specs.Descriptor.{letter_of, field_descriptor, method_descriptor}

-- ---- names and types

unfoldable pub name_texts : List ℕ → List (List ℕ)
name_texts name = text_bytes name ∷ []

-- what a Class entry names (JVMS 4.4.1): a class by its name, an array by its descriptor
abbrev pub base_name : BaseType → List ℕ
base_name (bases.Class name) = name
base_name (bases.Primitive primitive) = letter_of primitive ∷ []

abbrev pub class_name_of : JType → List ℕ
class_name_of ty = if ty.depth == 0 then base_name ty.base else field_descriptor ty

-- a type where a class is wanted
abbrev pub class_texts_of : JType → List (List ℕ)
class_texts_of ty = name_texts (class_name_of ty)

-- the type of a field
abbrev pub type_texts : JType → List (List ℕ)
type_texts ty = name_texts (field_descriptor ty)

abbrev pub desc_texts : MethodDesc → List (List ℕ)
desc_texts desc = name_texts (method_descriptor desc)

-- ---- code

abbrev pub field_ref_texts : FieldRef → List (List ℕ)
field_ref_texts field = name_texts field.class ++ name_texts field.name ++ type_texts field.ty

abbrev pub method_ref_texts : MethodRef → List (List ℕ)
method_ref_texts method = class_texts_of method.class ++ name_texts method.name ++ desc_texts method.desc

abbrev pub insn_texts : Insn → List (List ℕ)
insn_texts (PushString text) = name_texts text
insn_texts (GetStatic field) = field_ref_texts field
insn_texts (PutStatic field) = field_ref_texts field
insn_texts (GetField field) = field_ref_texts field
insn_texts (PutField field) = field_ref_texts field
insn_texts (Invoke kind method) = method_ref_texts method
insn_texts (New class) = name_texts class
insn_texts (ANewArray ty) = class_texts_of ty
insn_texts (CheckCast ty) = class_texts_of ty
insn_texts (InstanceOf ty) = class_texts_of ty
insn_texts (MultiNewArray ty dimensions) = class_texts_of ty
insn_texts _ = []

abbrev pub handler_texts : Handler → List (List ℕ)
handler_texts handler = flat_map name_texts (option_to_list handler.caught)

abbrev pub vtype_texts : VType → List (List ℕ)
vtype_texts (Ref ty) = class_texts_of ty
vtype_texts _ = []

abbrev pub frame_texts : ℕ × Frame → List (List ℕ)
frame_texts row = flat_map vtype_texts row.1.locals ++ flat_map vtype_texts row.1.stack

abbrev pub code_texts : CodeDef → List (List ℕ)
code_texts code = flat_map insn_texts code.insns ++ flat_map handler_texts code.handlers ++ flat_map frame_texts code.frames

-- ---- members and the class

abbrev pub constant_texts : Constant → List (List ℕ)
constant_texts (constants.Text text) = name_texts text
constant_texts _ = []

abbrev pub field_texts : FieldDef → List (List ℕ)
field_texts field = name_texts field.name ++ type_texts field.ty ++ flat_map constant_texts (option_to_list field.constant)

abbrev pub method_texts : MethodDef → List (List ℕ)
method_texts method =
    name_texts method.name ++ desc_texts method.desc
    ++ flat_map code_texts (option_to_list method.code)
    ++ flat_map name_texts method.throws

abbrev pub inner_texts : InnerRow → List (List ℕ)
inner_texts row = name_texts row.inner ++ flat_map name_texts (option_to_list row.outer) ++ flat_map name_texts (option_to_list row.name)

-- what stands before the members
unfoldable pub header_texts : ClassDef → List (List ℕ)
header_texts class = name_texts class.name ++ flat_map name_texts (option_to_list class.super_name) ++ flat_map name_texts class.interfaces

-- the name of the source file is kept as its bytes
abbrev pub source_texts : List ℕ → List (List ℕ)
source_texts source = source ∷ []

unfoldable pub member_texts : ClassDef → List (List ℕ)
member_texts class = flat_map field_texts class.fields ++ flat_map method_texts class.methods

unfoldable pub attribute_texts : ClassDef → List (List ℕ)
attribute_texts class = flat_map source_texts (option_to_list class.source) ++ flat_map inner_texts class.inner

unfoldable pub class_texts : ClassDef → List (List ℕ)
class_texts class = header_texts class ++ member_texts class ++ attribute_texts class
