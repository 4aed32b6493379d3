-- Texts whose bytes are few enough for a Utf8 entry (JVMS 4.4.7).
use Rattle.std.specs.Prelude.{ℕ, ◌<◌, ◌^◌, List, ◌&&◌, Bool, nat_lt, length}
use Rattle.std.specs.List.{list_all}
use Rattle.modified_utf8.specs.Text.{text_bytes}
use Rattle.class_model.specs.declared.types.JType.{JType}
use Rattle.class_model.specs.declared.types.MethodDesc.{MethodDesc}
use Rattle.class_model.specs.declared.types.FieldRef.{FieldRef}
use Rattle.class_model.specs.declared.types.MethodRef.{MethodRef}
use Rattle.class_model.specs.declared.class.Constant.{Constant}
use Rattle.class_model.specs.declared.class.Constant.TheVariants as constants
use Rattle.class_model.specs.Descriptor.{field_descriptor, method_descriptor}
use Rattle.pool_names.specs.Spelling.{class_text}

abbrev pub FitsText : List ℕ → Type 0
FitsText units = length (text_bytes units) < 2 ^ 16

abbrev pub FitsType : JType → Type 0
FitsType ty = FitsText (class_text ty)

abbrev pub FitsFieldType : JType → Type 0
FitsFieldType ty = FitsText (field_descriptor ty)

abbrev pub FitsDesc : MethodDesc → Type 0
FitsDesc desc = FitsText (method_descriptor desc)

pub record FitsField (field : FieldRef) : Type 0 where
  pub class : FitsText field.class
  pub name : FitsText field.name
  pub type : FitsFieldType field.ty

pub record FitsMethod (method : MethodRef) : Type 0 where
  pub class : FitsType method.class
  pub name : FitsText method.name
  pub desc : FitsDesc method.desc

abbrev pub FitsConstant : Constant → Type 0
FitsConstant (constants.Int n) = Unit {0}
FitsConstant (constants.Long n) = Unit {0}
FitsConstant (constants.Text units) = FitsText units

-- a text of the characters 1 to 127, each of which is one byte
abbrev pub is_ascii : ℕ → Bool
is_ascii unit = nat_lt 0 unit && nat_lt unit 128

abbrev pub is_short_ascii : List ℕ → Bool
is_short_ascii text = nat_lt (length text) 65536 && list_all is_ascii text
