-- What each use of the constant pool puts into it (JVMS 4.4): a text before what names it, and a member as class, name,
-- descriptor, name with type, member. This order is this project's own.
use Rattle.std.specs.Prelude.{ℕ, zero, ℤ, List, Bool, cond, nat_lt, if◌then◌else◌}
use Rattle.std.specs.List.{list_all}
use Rattle.modified_utf8.specs.Text.{text_bytes}
use Rattle.class_model.specs.declared.types.BaseType.{BaseType}
use Rattle.class_model.specs.declared.types.BaseType.TheVariants as bases
use Rattle.class_model.specs.declared.types.JType.{JType}
use Rattle.class_model.specs.declared.types.MethodDesc.{MethodDesc}
use Rattle.class_model.specs.declared.types.FieldRef.{FieldRef}
use Rattle.class_model.specs.declared.types.MethodRef.{MethodRef}
use Rattle.class_model.specs.declared.class.Constant.{Constant}
use Rattle.class_model.specs.declared.class.Constant.TheVariants as constants
use Rattle.class_model.specs.Descriptor.{field_descriptor, method_descriptor}
use Rattle.const_pool.specs.declared.entry.Entry.{Entry}
use Rattle.const_pool.specs.declared.entry.Entry.TheVariants as entries
use Rattle.pool_names.specs.Adding.{Adding, ◌>>=◌, unspelled, add_entry}

-- ---- texts

-- the bytes of a text
abbrev pub spell_bytes : List ℕ → Adding ℕ
spell_bytes bytes = add_entry (entries.Utf8 bytes)

-- a UTF-16 unit
abbrev pub is_unit : ℕ → Bool
is_unit n = nat_lt n 65536

-- a text, by its UTF-16 units
unfoldable pub spell_text : List ℕ → Adding ℕ
spell_text units = if list_all is_unit units then spell_bytes (text_bytes units) else unspelled

-- ---- classes and types

-- the name of a class
unfoldable pub spell_class : List ℕ → Adding ℕ
spell_class name = do
  text ← spell_text name
  add_entry (entries.Class text)

-- what the constant pool calls a class or an array, by its dimensions and its base: an array by its descriptor
abbrev pub class_text_of : ℕ → BaseType → List ℕ → List ℕ
class_text_of zero (bases.Class name) descriptor = name
class_text_of depth base descriptor = descriptor

abbrev pub class_text : JType → List ℕ
class_text ty = class_text_of ty.depth ty.base (field_descriptor ty)

-- a class or an array as a type
unfoldable pub spell_type : JType → Adding ℕ
spell_type ty = spell_class (class_text ty)

-- the type of a field, by its descriptor
unfoldable pub spell_field_type : JType → Adding ℕ
spell_field_type ty = spell_text (field_descriptor ty)

-- the types of a method, by their descriptor
unfoldable pub spell_desc : MethodDesc → Adding ℕ
spell_desc desc = spell_text (method_descriptor desc)

-- ---- members

-- a name with a descriptor
unfoldable pub spell_name_and_type : List ℕ → List ℕ → Adding ℕ
spell_name_and_type name descriptor = do
  name ← spell_text name
  type ← spell_text descriptor
  add_entry (entries.NameAndType name type)

unfoldable pub spell_field : FieldRef → Adding ℕ
spell_field field = do
  class ← spell_class field.class
  pair ← spell_name_and_type field.name (field_descriptor field.ty)
  add_entry (entries.Field class pair)

-- an InterfaceMethodref or a Methodref
abbrev pub method_entry : Bool → ℕ → ℕ → Entry
method_entry in_interface class pair = cond in_interface (entries.InterfaceMethod class pair) (entries.Method class pair)

unfoldable pub spell_method : MethodRef → Adding ℕ
spell_method method = do
  class ← spell_type method.class
  pair ← spell_name_and_type method.name (method_descriptor method.desc)
  add_entry (method_entry method.in_interface class pair)

-- ---- constants

abbrev pub spell_int : ℤ → Adding ℕ
spell_int n = add_entry (entries.Integer n)

abbrev pub spell_long : ℤ → Adding ℕ
spell_long n = add_entry (entries.Long n)

unfoldable pub spell_string : List ℕ → Adding ℕ
spell_string units = do
  text ← spell_text units
  add_entry (entries.Text text)

-- the value of a ConstantValue attribute
abbrev pub spell_constant : Constant → Adding ℕ
spell_constant (constants.Int n) = spell_int n
spell_constant (constants.Long n) = spell_long n
spell_constant (constants.Text units) = spell_string units
