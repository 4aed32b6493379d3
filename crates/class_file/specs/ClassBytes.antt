-- A class file (JVMS 4.1): one relation for each structure, over what the content of a Code attribute is.
use Rattle.std.specs.Prelude.{◌≡◌, ℕ, List, [], ◌∷◌, Option, Some, None, codes}
use Rattle.class_input.specs.Grammar.{IsU16, IsU32}
use Rattle.class_model.specs.declared.class.CodeDef.{CodeDef}
use Rattle.class_model.specs.declared.class.FieldDef.{FieldDef}
use Rattle.class_model.specs.declared.class.MethodDef.{MethodDef}
use Rattle.class_model.specs.declared.class.InnerRow.{InnerRow}
use Rattle.class_model.specs.declared.class.ClassDef.{ClassDef}
use Rattle.const_pool.specs.Pool.{Pool, IsPool}
use Rattle.class_names.specs.Pieces.{joined, IsTable, AtIndex}
use Rattle.class_names.specs.Names.{NamesText, MayName, NamesClass, NamesFieldType, NamesMethodDesc}
use Rattle.class_attributes.specs.Attributes.{ReadsOne, ReadsTwo, constant_value, exceptions, source_file, inner_classes, IsConstantValue, IsExceptions, IsSourceFile, IsInnerClasses}
use Rattle.class_file.specs.declared.method.MethodHead.{MethodHead}

abbrev pub code_name : List ℕ
code_name = codes "Code"

-- the items of a table in an attribute, none where the attribute is absent
abbrev pub listed : {A : Type 0} → Option (List A) → List A
listed None = []
listed (Some xs) = xs

-- a field (JVMS 4.5), whose constant is kept whether the field is static or not
pub record IsField (p : Pool) (text : List ℕ) (field : FieldDef) : Type 0 where
  pub flags : List ℕ
  pub name : List ℕ
  pub descriptor : List ℕ
  pub attributes : List ℕ
  pub spelled : text ≡ joined (flags ∷ name ∷ descriptor ∷ attributes ∷ [])
  pub flags_are : IsU16 flags field.flags
  pub named : AtIndex (NamesText p) name field.name
  pub typed : AtIndex (NamesFieldType p) descriptor field.ty
  pub attributes_are : ReadsOne p constant_value (IsConstantValue p) attributes field.constant

-- what stands before the attributes of a method
abbrev pub head_of : MethodDef → MethodHead
head_of method = record { flags = method.flags; name = method.name; desc = method.desc }

-- a method of a class (JVMS 4.6), with its Code and its Exceptions
pub record IsMethod (IsCode : Pool → List ℕ → MethodHead → List ℕ → CodeDef → Type 0) (p : Pool) (class : List ℕ) (text : List ℕ) (method : MethodDef) : Type 0 where
  pub flags : List ℕ
  pub name : List ℕ
  pub descriptor : List ℕ
  pub attributes : List ℕ
  pub throws : Option (List (List ℕ))
  pub spelled : text ≡ joined (flags ∷ name ∷ descriptor ∷ attributes ∷ [])
  pub flags_are : IsU16 flags method.flags
  pub named : AtIndex (NamesText p) name method.name
  pub typed : AtIndex (NamesMethodDesc p) descriptor method.desc
  pub attributes_are : ReadsTwo p code_name (IsCode p class (head_of method)) exceptions (IsExceptions p) attributes (method.code, throws)
  pub throws_are : method.throws ≡ listed throws

-- what stands behind the constant pool
pub record IsClassBody (IsCode : Pool → List ℕ → MethodHead → List ℕ → CodeDef → Type 0) (p : Pool) (text : List ℕ) (class : ClassDef) : Type 0 where
  pub flags : List ℕ
  pub name : List ℕ
  pub super_name : List ℕ
  pub interfaces : List ℕ
  pub fields : List ℕ
  pub methods : List ℕ
  pub attributes : List ℕ
  pub rows : Option (List InnerRow)
  pub spelled : text ≡ joined (flags ∷ name ∷ super_name ∷ interfaces ∷ fields ∷ methods ∷ attributes ∷ [])
  pub flags_are : IsU16 flags class.flags
  pub named : AtIndex (NamesClass p) name class.name
  pub super_named : AtIndex (MayName (NamesClass p)) super_name class.super_name
  pub interfaces_are : IsTable (AtIndex (NamesClass p)) interfaces class.interfaces
  pub fields_are : IsTable (IsField p) fields class.fields
  pub methods_are : IsTable (IsMethod IsCode p class.name) methods class.methods
  pub attributes_are : ReadsTwo p source_file (IsSourceFile p) inner_classes (IsInnerClasses p) attributes (class.source, rows)
  pub inner_are : class.inner ≡ listed rows

-- the bytes of a class file, all of them
pub record ClassBytes (IsCode : Pool → List ℕ → MethodHead → List ℕ → CodeDef → Type 0) (text : List ℕ) (class : ClassDef) : Type 0 where
  pub magic : List ℕ
  pub minor : List ℕ
  pub major : List ℕ
  pub pool_text : List ℕ
  pub body : List ℕ
  pub pool : Pool
  pub spelled : text ≡ joined (magic ∷ minor ∷ major ∷ pool_text ∷ body ∷ [])
  pub magic_is : IsU32 magic 0xCAFEBABE
  pub minor_is : IsU16 minor class.minor
  pub major_is : IsU16 major class.major
  pub pool_is : IsPool pool_text pool
  pub body_is : IsClassBody IsCode pool body class
