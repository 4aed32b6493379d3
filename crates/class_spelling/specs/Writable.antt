-- Classes that can be written: of the grammar, with texts, counts and lengths that have room in their fields (JVMS 4).
use Rattle.std.specs.Prelude.{ℕ, ◌<◌, ◌^◌, List, length, All, IfSome}
use Rattle.class_model.specs.declared.class.CodeDef.{CodeDef}
use Rattle.class_model.specs.declared.class.FieldDef.{FieldDef}
use Rattle.class_model.specs.declared.class.MethodDef.{MethodDef}
use Rattle.class_model.specs.declared.class.InnerRow.{InnerRow}
use Rattle.class_model.specs.declared.class.ClassDef.{ClassDef}
use Rattle.class_model.specs.Descriptor.{IsFieldType, IsMethodType}
use Rattle.const_pool.specs.declared.entry.Entry.TheVariants as entries
use Rattle.const_pool.specs.Pool.{HasText}
use Rattle.pool_names.specs.Fits.{FitsText, FitsFieldType, FitsDesc, FitsConstant}

abbrev pub FitsCount : {A : Type 0} → List A → Type 0
FitsCount xs = length xs < 2 ^ 16

-- texts that have room
unfoldable pub EachFits : List (List ℕ) → Type 0
EachFits texts = All FitsText texts

-- bytes that are the text of a Utf8 entry
abbrev pub FitsBytes : List ℕ → Type 0
FitsBytes bytes = HasText (entries.Utf8 bytes)

pub record WritableField (field : FieldDef) : Type 0 where
  pub named : FitsText field.name
  pub typed : IsFieldType field.ty
  pub descriptor : FitsFieldType field.ty
  pub constant : IfSome field.constant FitsConstant

pub record WritableMethod (WritableCode : CodeDef → Type 0) (method : MethodDef) : Type 0 where
  pub named : FitsText method.name
  pub typed : IsMethodType method.desc
  pub descriptor : FitsDesc method.desc
  pub code : IfSome method.code WritableCode
  pub throws : FitsCount method.throws
  pub thrown : EachFits method.throws

pub record WritableRow (row : InnerRow) : Type 0 where
  pub inner : FitsText row.inner
  pub outer : IfSome row.outer FitsText
  pub name : IfSome row.name FitsText

pub record Writable (WritableCode : CodeDef → Type 0) (class : ClassDef) : Type 0 where
  pub named : FitsText class.name
  pub super_named : IfSome class.super_name FitsText
  pub interfaces : FitsCount class.interfaces
  pub interfaces_named : EachFits class.interfaces
  pub fields : FitsCount class.fields
  pub each_field : All WritableField class.fields
  pub methods : FitsCount class.methods
  pub each_method : All (WritableMethod WritableCode) class.methods
  pub source : IfSome class.source FitsBytes
  pub inner : FitsCount class.inner
  pub each_row : All WritableRow class.inner
