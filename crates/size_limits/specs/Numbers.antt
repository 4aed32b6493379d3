-- The numbers of size of a class and of a method, that of the constant pool aside. All are this project's own.
use Rattle.std.specs.Prelude.{ℕ, ◌+◌, ◌*◌, max, not, List, [], ◌∷◌, length, count_by, option_to_list}
use Rattle.class_model.specs.declared.insn.Insn.{Insn}
use Rattle.class_model.specs.declared.insn.Insn.TheVariants.{GetStatic, PutStatic, GetField, PutField, Invoke, New, ANewArray, CheckCast, InstanceOf, MultiNewArray}
use Rattle.class_model.specs.declared.types.JType.{JType}
use Rattle.class_model.specs.declared.types.MethodDesc.{MethodDesc}
use Rattle.class_model.specs.declared.types.FieldRef.{FieldRef}
use Rattle.class_model.specs.declared.types.MethodRef.{MethodRef}
use Rattle.class_model.specs.declared.class.VType.{VType}
use Rattle.class_model.specs.declared.class.VType.TheVariants.{Ref}
use Rattle.class_model.specs.declared.class.Frame.{Frame}
use Rattle.class_model.specs.declared.class.Handler.{Handler}
use Rattle.class_model.specs.declared.class.CodeDef.{CodeDef}
use Rattle.class_model.specs.declared.class.FieldDef.{FieldDef}
use Rattle.class_model.specs.declared.class.MethodDef.{MethodDef}
use Rattle.class_model.specs.declared.class.InnerRow.{InnerRow}
use Rattle.class_model.specs.declared.class.ClassDef.{ClassDef}
use Rattle.class_model.specs.Descriptor.{words_of, is_primitive_type}
use Rattle.class_model.specs.Descriptor.{field_descriptor, method_descriptor}
use Rattle.modified_utf8.specs.Text.{text_bytes}
use Rattle.class_limits.specs.Texts.{class_name_of}
use Rattle.profile_check.specs.Members.{is_static}

-- the greatest of the numbers that a list gives, 0 where it is empty
unfoldable pub most : {A : Type 0} → (A → ℕ) → List A → ℕ
most f [] = 0
most f (x ∷ xs) = max (f x) (most f xs)

-- ---- the longest name: of class names, member names and descriptors, each as the bytes of its text (JVMS 4.4.7)

abbrev pub name_length : List ℕ → ℕ
name_length name = length (text_bytes name)

abbrev pub type_length : JType → ℕ
type_length ty = length (text_bytes (field_descriptor ty))

abbrev pub desc_length : MethodDesc → ℕ
desc_length desc = length (text_bytes (method_descriptor desc))

-- a class by its name, an array by its descriptor
abbrev pub class_length : JType → ℕ
class_length ty = length (text_bytes (class_name_of ty))

abbrev pub field_ref_length : FieldRef → ℕ
field_ref_length field = max (max (name_length field.class) (name_length field.name)) (type_length field.ty)

abbrev pub method_ref_length : MethodRef → ℕ
method_ref_length method = max (max (class_length method.class) (name_length method.name)) (desc_length method.desc)

-- a literal is no name
unfoldable pub insn_length : Insn → ℕ
insn_length (GetStatic field) = field_ref_length field
insn_length (PutStatic field) = field_ref_length field
insn_length (GetField field) = field_ref_length field
insn_length (PutField field) = field_ref_length field
insn_length (Invoke kind method) = method_ref_length method
insn_length (New class) = name_length class
insn_length (ANewArray ty) = class_length ty
insn_length (CheckCast ty) = class_length ty
insn_length (InstanceOf ty) = class_length ty
insn_length (MultiNewArray ty dimensions) = class_length ty
insn_length _ = 0

unfoldable pub handler_length : Handler → ℕ
handler_length handler = most name_length (option_to_list handler.caught)

unfoldable pub vtype_length : VType → ℕ
vtype_length (Ref ty) = class_length ty
vtype_length _ = 0

unfoldable pub frame_length : ℕ × Frame → ℕ
frame_length row = max (most vtype_length row.1.locals) (most vtype_length row.1.stack)

unfoldable pub code_length : CodeDef → ℕ
code_length code = max (max (most insn_length code.insns) (most handler_length code.handlers)) (most frame_length code.frames)

unfoldable pub field_length : FieldDef → ℕ
field_length field = max (name_length field.name) (type_length field.ty)

-- Exceptions included
unfoldable pub method_length : MethodDef → ℕ
method_length method =
    max (max (max (name_length method.name) (desc_length method.desc)) (most code_length (option_to_list method.code))) (most name_length method.throws)

-- simple names are left out
unfoldable pub row_length : InnerRow → ℕ
row_length row = max (name_length row.inner) (most name_length (option_to_list row.outer))

unfoldable pub header_length : ClassDef → ℕ
header_length class = max (max (name_length class.name) (most name_length (option_to_list class.super_name))) (most name_length class.interfaces)

-- all but the name of the source file
unfoldable pub text_number : ClassDef → ℕ
text_number class = max (max (max (header_length class) (most field_length class.fields)) (most method_length class.methods)) (most row_length class.inner)

-- ---- members: each field has a tag beside it, and few methods are added

abbrev pub members_number : ClassDef → ℕ
members_number class = max (2 * length class.fields + 1) (length class.methods + 4)

-- ---- parameters: their words, the receiver counted, and a tag for each that is a primitive

abbrev pub parameters_number : MethodDef → ℕ
parameters_number method = words_of method.desc (not (is_static method)) + count_by is_primitive_type method.desc.params

-- ---- code; a method without code has none

abbrev pub in_code : (CodeDef → ℕ) → MethodDef → ℕ
in_code number method = most number (option_to_list method.code)

abbrev pub locals_number : CodeDef → ℕ
locals_number code = 2 * code.max_locals + code.max_stack + 8

abbrev pub stack_number : CodeDef → ℕ
stack_number code = 2 * code.max_stack + 16
