-- The attributes that are written outside code (JVMS 4.7), each only where it has content.
use Rattle.std.specs.Prelude.{ℕ, ◌+◌, List, [], ◌∷◌, ◌++◌, Option}
use Rattle.class_model.specs.declared.class.Constant.{Constant}
use Rattle.class_model.specs.declared.class.CodeDef.{CodeDef}
use Rattle.class_model.specs.declared.class.InnerRow.{InnerRow}
use Rattle.class_names.specs.Pieces.{joined}
use Rattle.class_attributes.specs.Attributes.{constant_value, exceptions, source_file, inner_classes}
use Rattle.class_file.specs.ClassBytes.{code_name}
use Rattle.pool_names.specs.Adding.{Adding, ◌>>=◌, done, spell_u16}
use Rattle.pool_names.specs.Spelling.{spell_bytes, spell_text, spell_class, spell_constant}
use Rattle.class_spelling.specs.Forms.{spell_index, spell_optional, spell_table, spell_when_some, count_some, spell_when_any, count_any}

-- ---- contents

-- ConstantValue (JVMS 4.7.2)
abbrev pub spell_constant_value : Constant → Adding (List ℕ)
spell_constant_value constant = spell_index (spell_constant constant)

-- the index of a class by its name
abbrev pub spell_class_index : List ℕ → Adding (List ℕ)
spell_class_index name = spell_index (spell_class name)

-- a table of classes by their names, as the interfaces of a class (JVMS 4.1) and Exceptions (4.7.5) have one
unfoldable pub spell_classes : List (List ℕ) → Adding (List ℕ)
spell_classes names = spell_table spell_class_index names

-- SourceFile (JVMS 4.7.10)
abbrev pub spell_source_file : List ℕ → Adding (List ℕ)
spell_source_file bytes = spell_index (spell_bytes bytes)

-- a row of InnerClasses (JVMS 4.7.6)
unfoldable pub spell_inner_row : InnerRow → Adding (List ℕ)
spell_inner_row row = do
  inner ← spell_class_index row.inner
  outer ← spell_index (spell_optional spell_class row.outer)
  name ← spell_index (spell_optional spell_text row.name)
  flags ← spell_u16 row.flags
  done (joined (inner ∷ outer ∷ name ∷ flags ∷ []))

abbrev pub spell_inner_classes : List InnerRow → Adding (List ℕ)
spell_inner_classes rows = spell_table spell_inner_row rows

-- ---- tables of attributes

-- ConstantValue, also of an instance field, so that no constant is lost
unfoldable pub spell_field_attributes : Option Constant → Adding (List ℕ)
spell_field_attributes constant = do
  count ← spell_u16 (count_some constant)
  attribute ← spell_when_some constant_value spell_constant_value constant
  done (count ++ attribute)

-- Code, Exceptions
unfoldable pub spell_method_attributes : (CodeDef → Adding (List ℕ)) → Option CodeDef → List (List ℕ) → Adding (List ℕ)
spell_method_attributes code_content code throws = do
  count ← spell_u16 (count_some code + count_any throws)
  first ← spell_when_some code_name code_content code
  second ← spell_when_any exceptions spell_classes throws
  done (joined (count ∷ first ∷ second ∷ []))

-- SourceFile, InnerClasses
unfoldable pub spell_class_attributes : Option (List ℕ) → List InnerRow → Adding (List ℕ)
spell_class_attributes source rows = do
  count ← spell_u16 (count_some source + count_any rows)
  first ← spell_when_some source_file spell_source_file source
  second ← spell_when_any inner_classes spell_inner_classes rows
  done (joined (count ∷ first ∷ second ∷ []))
