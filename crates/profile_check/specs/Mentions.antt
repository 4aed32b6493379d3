-- What a class names, in the order of its file: classes, members and types, each with its place.
use Rattle.std.specs.Prelude.{ℕ, List, [], ◌∷◌, ◌++◌, length, map, flat_map, Option, Some, None, option_to_list, option_map}
use Rattle.class_model.specs.declared.types.Primitive.{Primitive}
use Rattle.class_model.specs.declared.types.JType.{JType}
use Rattle.class_model.specs.declared.types.BaseType.TheVariants as bases
use Rattle.class_model.specs.declared.types.MethodDesc.{MethodDesc}
use Rattle.class_model.specs.declared.types.FieldRef.{FieldRef}
use Rattle.class_model.specs.declared.types.MethodRef.{MethodRef}
use Rattle.class_model.specs.declared.insn.Insn.{Insn}
use Rattle.class_model.specs.declared.insn.Insn.TheVariants.{GetStatic, PutStatic, GetField, PutField, Invoke, New, NewArray, ANewArray, CheckCast, InstanceOf, MultiNewArray}
use Rattle.class_model.specs.declared.class.VType.{VType}
use Rattle.class_model.specs.declared.class.VType.TheVariants.{Ref}
use Rattle.class_model.specs.declared.class.Frame.{Frame}
use Rattle.class_model.specs.declared.class.Handler.{Handler}
use Rattle.class_model.specs.declared.class.CodeDef.{CodeDef}
use Rattle.class_model.specs.declared.class.FieldDef.{FieldDef}
use Rattle.class_model.specs.declared.class.MethodDef.{MethodDef}
use Rattle.class_model.specs.declared.class.InnerRow.{InnerRow}
use Rattle.class_model.specs.declared.class.ClassDef.{ClassDef}
use Rattle.profile_check.specs.declared.rule.Place.{Place}
use Rattle.profile_check.specs.First.{flat_from}

-- a name or a type that a class file names, by what it stands for
pub data Mention : Type 0 where
  -- the class itself, its superclass, and what Exceptions and InnerClasses name
  ClassName : List ℕ → Mention
  -- an interface, a class that an instruction names, and what a handler catches
  UsedClass : List ℕ → Mention
  FieldName : List ℕ → Mention
  MethodName : List ℕ → Mention
  -- a method that an instruction names, with the class or array on which it does
  CalledName : JType → List ℕ → Mention
  -- the simple name in a row of InnerClasses
  SimpleName : List ℕ → Mention
  -- a type of a descriptor, of a frame or of an instruction
  TypeUsed : JType → Mention

abbrev pub descriptor_mentions : MethodDesc → List Mention
descriptor_mentions desc = map TypeUsed desc.params ++ map TypeUsed (option_to_list desc.result)

abbrev pub field_ref_mentions : FieldRef → List Mention
field_ref_mentions field = UsedClass field.class ∷ FieldName field.name ∷ TypeUsed field.ty ∷ []

abbrev pub method_ref_mentions : MethodRef → List Mention
method_ref_mentions method = TypeUsed method.class ∷ CalledName method.class method.name ∷ descriptor_mentions method.desc

abbrev pub primitive_type : ℕ → Primitive → JType
primitive_type depth primitive = record { depth = depth; base = bases.Primitive primitive }

abbrev pub insn_mentions : Insn → List Mention
insn_mentions (GetStatic field) = field_ref_mentions field
insn_mentions (PutStatic field) = field_ref_mentions field
insn_mentions (GetField field) = field_ref_mentions field
insn_mentions (PutField field) = field_ref_mentions field
insn_mentions (Invoke kind method) = method_ref_mentions method
insn_mentions (New class) = UsedClass class ∷ []
insn_mentions (NewArray primitive) = TypeUsed (primitive_type 1 primitive) ∷ []
insn_mentions (ANewArray ty) = TypeUsed ty ∷ []
insn_mentions (CheckCast ty) = TypeUsed ty ∷ []
insn_mentions (InstanceOf ty) = TypeUsed ty ∷ []
insn_mentions (MultiNewArray ty dimensions) = TypeUsed ty ∷ []
insn_mentions _ = []

abbrev pub handler_mentions : Handler → List Mention
handler_mentions handler = map UsedClass (option_to_list handler.caught)

abbrev pub vtype_mentions : VType → List Mention
vtype_mentions (Ref ty) = TypeUsed ty ∷ []
vtype_mentions _ = []

abbrev pub frame_mentions : ℕ × Frame → List Mention
frame_mentions row = flat_map vtype_mentions row.1.locals ++ flat_map vtype_mentions row.1.stack

abbrev pub inner_mentions : InnerRow → List Mention
inner_mentions row = ClassName row.inner ∷ (map ClassName (option_to_list row.outer) ++ map SimpleName (option_to_list row.name))

-- a thing that is named, and where
pub record Placed : Type 0 where
  pub mention : Mention
  pub place : Place

abbrev pub outside : Place
outside = record { member = None; at = None }

abbrev pub in_member : ℕ → Place
in_member member = record { member = Some member; at = None }

abbrev pub in_insn : ℕ → ℕ → Place
in_insn member at = record { member = Some member; at = Some at }

abbrev pub placed : Place → List Mention → List Placed
placed place mentions = map (λ mention. record { mention = mention; place = place }) mentions

-- what stands before the members
abbrev pub header_mentions : ClassDef → List Mention
header_mentions class = ClassName class.name ∷ (map ClassName (option_to_list class.super_name) ++ map UsedClass class.interfaces)

abbrev pub field_mentions : FieldDef → List Mention
field_mentions field = FieldName field.name ∷ TypeUsed field.ty ∷ []

abbrev pub field_placed : ℕ → FieldDef → List Placed
field_placed member field = placed (in_member member) (field_mentions field)

abbrev pub insn_placed : ℕ → ℕ → Insn → List Placed
insn_placed member at insn = placed (in_insn member at) (insn_mentions insn)

-- the instructions, then the handlers, then the frames
abbrev pub code_mentions : ℕ → Option CodeDef → List Placed
code_mentions member None = []
code_mentions member (Some code) =
    flat_from (insn_placed member) 0 code.insns
    ++ (placed (in_member member) (flat_map handler_mentions code.handlers)
    ++ placed (in_member member) (flat_map frame_mentions code.frames))

-- what stands before the code of a method: its name and its descriptor
abbrev pub method_head : MethodDef → List Mention
method_head method = MethodName method.name ∷ descriptor_mentions method.desc

-- the name, the descriptor, the code, then Exceptions
abbrev pub method_mentions : ℕ → MethodDef → List Placed
method_mentions member method =
    placed (in_member member) (method_head method)
    ++ (code_mentions member method.code
    ++ placed (in_member member) (map ClassName method.throws))

-- all that a class names: itself, its superclass, interfaces, fields, methods, then InnerClasses
abbrev pub class_mentions : ClassDef → List Placed
class_mentions class =
    placed outside (header_mentions class)
    ++ (flat_from field_placed 0 class.fields
    ++ (flat_from method_mentions (length class.fields) class.methods
    ++ placed outside (flat_map inner_mentions class.inner)))
