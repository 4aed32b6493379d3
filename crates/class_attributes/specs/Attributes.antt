-- Attributes (JVMS 4.7): which stand in a table, and what those that are read say.
use Rattle.std.specs.Prelude.{◌≡◌, ℕ, List, [], ◌∷◌, length, Option, Some, None, Bool, bytes_eq, codes, if◌then◌else◌}
use Rattle.class_input.specs.Grammar.{IsU16, IsU32}
use Rattle.class_model.specs.declared.class.InnerRow.{InnerRow}
use Rattle.class_model.specs.declared.class.Constant.{Constant}
use Rattle.const_pool.specs.Pool.{Pool}
use Rattle.class_names.specs.Pieces.{joined, IsTable, AtIndex}
use Rattle.class_names.specs.Names.{NamesBytes, NamesText, MayName, NamesClass, NamesConstant}

-- ---- attributes as they stand, whatever their names

-- the bytes of a name, and those of the content
pub record Attribute : Type 0 where
  pub name : List ℕ
  pub content : List ℕ

-- the index of the name, the length, and so many bytes: all that is asked of an attribute that is dropped
pub record IsAttribute (p : Pool) (text : List ℕ) (attribute : Attribute) : Type 0 where
  pub index : List ℕ
  pub len : List ℕ
  pub spelled : text ≡ joined (index ∷ len ∷ attribute.content ∷ [])
  pub named : AtIndex (NamesBytes p) index attribute.name
  pub length_is : IsU32 len (length attribute.content)

-- ---- those that are read

abbrev pub is_named : List ℕ → List ℕ → Bool
is_named name bytes = bytes_eq bytes name

-- the contents of the attributes of one name, in order
abbrev pub contents : List ℕ → List Attribute → List (List ℕ)
contents name [] = []
contents name (attribute ∷ attributes) = if is_named name attribute.name then attribute.content ∷ contents name attributes else contents name attributes

-- what the one content says, or nothing where there is none; there are not two
abbrev pub AtMostOne : {A : Type 0} → (List ℕ → A → Type 0) → List (List ℕ) → Option A → Type 0
AtMostOne R [] None = Unit {0}
AtMostOne R (content ∷ []) (Some a) = R content a
AtMostOne R contents found = ⊥

-- the names that are read outside code

abbrev pub constant_value : List ℕ
constant_value = codes "ConstantValue"

abbrev pub exceptions : List ℕ
exceptions = codes "Exceptions"

abbrev pub source_file : List ℕ
source_file = codes "SourceFile"

abbrev pub inner_classes : List ℕ
inner_classes = codes "InnerClasses"

-- the content of ConstantValue (JVMS 4.7.2)
abbrev pub IsConstantValue : Pool → List ℕ → Constant → Type 0
IsConstantValue p = AtIndex (NamesConstant p)

-- the content of Exceptions (JVMS 4.7.5)
abbrev pub IsExceptions : Pool → List ℕ → List (List ℕ) → Type 0
IsExceptions p = IsTable (AtIndex (NamesClass p))

-- the content of SourceFile (JVMS 4.7.10)
abbrev pub IsSourceFile : Pool → List ℕ → List ℕ → Type 0
IsSourceFile p = AtIndex (NamesBytes p)

-- a row of InnerClasses (JVMS 4.7.6): the outer class and the simple name may be absent
pub record IsInnerRow (p : Pool) (text : List ℕ) (row : InnerRow) : Type 0 where
  pub inner : List ℕ
  pub outer : List ℕ
  pub name : List ℕ
  pub flags : List ℕ
  pub spelled : text ≡ joined (inner ∷ outer ∷ name ∷ flags ∷ [])
  pub inner_is : AtIndex (NamesClass p) inner row.inner
  pub outer_is : AtIndex (MayName (NamesClass p)) outer row.outer
  pub name_is : AtIndex (MayName (NamesText p)) name row.name
  pub flags_are : IsU16 flags row.flags

abbrev pub IsInnerClasses : Pool → List ℕ → List InnerRow → Type 0
IsInnerClasses p = IsTable (IsInnerRow p)

-- ---- tables of attributes

-- a table of attributes, of which one name is read
pub record ReadsOne {A : Type 0} (p : Pool) (name : List ℕ) (R : List ℕ → A → Type 0) (text : List ℕ) (found : Option A) : Type 0 where
  pub attributes : List Attribute
  pub stand : IsTable (IsAttribute p) text attributes
  pub found_is : AtMostOne R (contents name attributes) found

-- a table of attributes, of which two names are read
pub record ReadsTwo {A B : Type 0} (p : Pool) (first : List ℕ) (R : List ℕ → A → Type 0) (second : List ℕ) (S : List ℕ → B → Type 0) (text : List ℕ) (found : Option A × Option B) : Type 0 where
  pub attributes : List Attribute
  pub stand : IsTable (IsAttribute p) text attributes
  pub first_is : AtMostOne R (contents first attributes) found.0
  pub second_is : AtMostOne S (contents second attributes) found.1
