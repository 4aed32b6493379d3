-- How a class file is spelled (JVMS 4.1), over how the content of a Code attribute is. Which of several spellings is taken
-- is this project's own.
use Rattle.std.specs.Prelude.{◌≡◌, ℕ, ◌+◌, List, [], ◌∷◌, ◌++◌, length, Result, Ok, Err, option_to_list}
use Rattle.std.specs.List.{flat_map}
use Rattle.std.specs.Int.{w16, w32, to_be_bytes}
use Rattle.class_model.specs.declared.class.CodeDef.{CodeDef}
use Rattle.class_model.specs.declared.class.FieldDef.{FieldDef}
use Rattle.class_model.specs.declared.class.MethodDef.{MethodDef}
use Rattle.class_model.specs.declared.class.ClassDef.{ClassDef}
use Rattle.const_pool.specs.Pool.{Pool, entry_bytes}
use Rattle.const_pool.specs.declared.editor.PoolStop.{PoolStop}
use Rattle.const_pool.specs.declared.editor.PoolStop.TheVariants.{Full, Memory}
use Rattle.class_names.specs.Pieces.{joined}
use Rattle.pool_names.specs.Adding.{Adding, ◌>>=◌, done, spell_u16, spell_u32, Unfit, Past}
use Rattle.pool_names.specs.Spelling.{spell_text, spell_class, spell_field_type, spell_desc}
use Rattle.class_spelling.specs.Forms.{spell_index, spell_optional, spell_table}
use Rattle.class_spelling.specs.AttributeSpelling.{spell_classes, spell_field_attributes, spell_method_attributes, spell_class_attributes}

-- a field (JVMS 4.5)
unfoldable pub spell_field : FieldDef → Adding (List ℕ)
spell_field field = do
  flags ← spell_u16 field.flags
  name ← spell_index (spell_text field.name)
  descriptor ← spell_index (spell_field_type field.ty)
  attributes ← spell_field_attributes field.constant
  done (joined (flags ∷ name ∷ descriptor ∷ attributes ∷ []))

-- a method (JVMS 4.6)
unfoldable pub spell_method : (CodeDef → Adding (List ℕ)) → MethodDef → Adding (List ℕ)
spell_method code_content method = do
  flags ← spell_u16 method.flags
  name ← spell_index (spell_text method.name)
  descriptor ← spell_index (spell_desc method.desc)
  attributes ← spell_method_attributes code_content method.code method.throws
  done (joined (flags ∷ name ∷ descriptor ∷ attributes ∷ []))

-- the class itself
unfoldable pub spell_class_head : ClassDef → Adding (List ℕ)
spell_class_head class = do
  flags ← spell_u16 class.flags
  name ← spell_index (spell_class class.name)
  super_name ← spell_index (spell_optional spell_class class.super_name)
  interfaces ← spell_classes class.interfaces
  done (joined (flags ∷ name ∷ super_name ∷ interfaces ∷ []))

-- what the class has
unfoldable pub spell_members : (CodeDef → Adding (List ℕ)) → ClassDef → Adding (List ℕ)
spell_members code_content class = do
  fields ← spell_table spell_field class.fields
  methods ← spell_table (spell_method code_content) class.methods
  attributes ← spell_class_attributes class.source class.inner
  done (joined (fields ∷ methods ∷ attributes ∷ []))

-- what stands behind the constant pool
unfoldable pub spell_class_body : (CodeDef → Adding (List ℕ)) → ClassDef → Adding (List ℕ)
spell_class_body code_content class = do
  head ← spell_class_head class
  members ← spell_members code_content class
  done (head ++ members)

-- what stands before the constant pool: the magic number and the version
abbrev pub front_bytes : ClassDef → List ℕ
front_bytes class = joined (to_be_bytes w32 0xCAFEBABE ∷ to_be_bytes w16 class.minor ∷ to_be_bytes w16 class.major ∷ [])

unfoldable pub spell_front : ClassDef → Adding (List ℕ)
spell_front class = do
  magic ← spell_u32 0xCAFEBABE
  minor ← spell_u16 class.minor
  major ← spell_u16 class.major
  done (joined (magic ∷ minor ∷ major ∷ []))

-- what stands before the constant pool, and what behind it
unfoldable pub spell_sides : (CodeDef → Adding (List ℕ)) → ClassDef → Adding (List ℕ × List ℕ)
spell_sides code_content class = do
  body ← spell_class_body code_content class
  front ← spell_front class
  done (front, body)

-- the bytes of a pool: a count, one more than its indices, and its entries
abbrev pub pool_bytes : Pool → List ℕ
pool_bytes p = to_be_bytes w16 (length p + 1) ++ flat_map entry_bytes (flat_map option_to_list p)

abbrev pub around : Result (Pool × (List ℕ × List ℕ)) Unfit → Result (List ℕ) Unfit
around (Ok sides) = Ok (joined (sides.1.0 ∷ pool_bytes sides.0 ∷ sides.1.1 ∷ []))
around (Err last) = Err last

-- The bytes of a class file. Where the constant pool needs an index over 65,534, the last index of the first entry that
-- does not fit.
unfoldable pub spell_class_file : (CodeDef → Adding (List ℕ)) → ClassDef → Result (List ℕ) Unfit
spell_class_file code_content class = around (spell_sides code_content class [])

-- what a call that writes a class file answers, by the definition, unless memory runs out
abbrev pub IsWritten : Result (List ℕ) PoolStop → Result (List ℕ) Unfit → Type 0
IsWritten (Ok bytes) spelled = spelled ≡ Ok bytes
IsWritten (Err (Full last)) spelled = spelled ≡ Err (Past last)
IsWritten (Err Memory) spelled = Unit {0}
