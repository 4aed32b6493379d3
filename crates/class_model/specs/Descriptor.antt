-- Descriptors (JVMS 4.3): the text of each type and of each method descriptor. A text is its UTF-16 units, here in decimal.
use Rattle.std.specs.Prelude.{◌≡◌, ◌≢◌, ℕ, ◌+◌, ◌<◌, ◌≤◌, ◌==◌, ◌&&◌, Bool, true, false, Option, Some, None, List, [], ◌∷◌, ◌++◌, length, take, replicate, flat_map, All, sum_by, IfSome, if◌then◌else◌}
use Rattle.class_model.specs.declared.types.Primitive.{Primitive}
use Rattle.class_model.specs.declared.types.Primitive.TheVariants.{Boolean, Byte, Char, Short, Int, Long, Float, Double}
use Rattle.class_model.specs.declared.types.BaseType.{BaseType}
use Rattle.class_model.specs.declared.types.BaseType.TheVariants as bases
use Rattle.class_model.specs.declared.types.JType.{JType}
use Rattle.class_model.specs.declared.types.MethodDesc.{MethodDesc}

-- the letter of a primitive type: Z, B, C, S, I, J, F, D
abbrev pub letter_of : Primitive → ℕ
letter_of Boolean = 90
letter_of Byte = 66
letter_of Char = 67
letter_of Short = 83
letter_of Int = 73
letter_of Long = 74
letter_of Float = 70
letter_of Double = 68

-- a letter, or a class name between 'L' and ';'
abbrev pub base_descriptor : BaseType → List ℕ
base_descriptor (bases.Primitive primitive) = letter_of primitive ∷ []
base_descriptor (bases.Class name) = 76 ∷ name ++ 59 ∷ []

-- the text of a type (JVMS 4.3.2): '[' for each dimension, then what the array has at its leaves
unfoldable pub field_descriptor : JType → List ℕ
field_descriptor ty = replicate ty.depth 91 ++ base_descriptor ty.base

-- the text of a result: 'V' for void
abbrev pub result_descriptor : Option JType → List ℕ
result_descriptor None = 86 ∷ []
result_descriptor (Some ty) = field_descriptor ty

-- the text of a method descriptor (JVMS 4.3.3): '(', the parameters, ')' and the result
unfoldable pub method_descriptor : MethodDesc → List ℕ
method_descriptor desc = 40 ∷ flat_map field_descriptor desc.params ++ 41 ∷ result_descriptor desc.result

-- a class name as a descriptor can hold it: one or more units other than ';' and '['
pub record IsClassName (name : List ℕ) : Type 0 where
  pub some_unit : name ≢ []
  pub no_end : All (λ unit. unit ≢ 59) name
  pub no_array : All (λ unit. unit ≢ 91) name

abbrev pub IsBaseType : BaseType → Type 0
IsBaseType (bases.Primitive primitive) = Unit {0}
IsBaseType (bases.Class name) = IsClassName name

-- a type that the grammar has: at most 255 dimensions, and a class name of the form above
pub record IsFieldType (ty : JType) : Type 0 where
  pub dimensions : ty.depth < 256
  pub base : IsBaseType ty.base

-- a method descriptor that the grammar has, however many words its parameters take
pub record IsMethodType (desc : MethodDesc) : Type 0 where
  pub params : All IsFieldType desc.params
  pub result : IfSome desc.result IsFieldType

-- the grammar of field descriptors: a text, and the type that it spells
pub record SpellsField (text : List ℕ) (ty : JType) : Type 0 where
  pub text_is : field_descriptor ty ≡ text
  pub in_grammar : IsFieldType ty

-- the grammar of method descriptors
pub record SpellsMethod (text : List ℕ) (desc : MethodDesc) : Type 0 where
  pub text_is : method_descriptor desc ≡ text
  pub in_grammar : IsMethodType desc

-- some text of a grammar begins with the first `place` units of this one
pub record Begins {A : Type 0} (Spells : List ℕ → A → Type 0) (text : List ℕ) (place : ℕ) : Type 0 where
  pub rest : List ℕ
  pub value : A
  pub spelled : Spells (take place text ++ rest) value

-- the longest prefix of a text that begins some text of a grammar has `place` units
pub record IsLongest {A : Type 0} (Spells : List ℕ → A → Type 0) (text : List ℕ) (place : ℕ) : Type 0 where
  pub within : place ≤ length text
  pub begins : Begins Spells text place
  pub longest : (more : ℕ) → place < more → more ≤ length text → Begins Spells text more → ⊥

-- long and double take two words, all else one (JVMS 2.6.1)
abbrev pub is_wide : Primitive → Bool
is_wide Long = true
is_wide Double = true
is_wide _ = false

abbrev pub is_wide_base : BaseType → Bool
is_wide_base (bases.Primitive primitive) = is_wide primitive
is_wide_base (bases.Class name) = false

abbrev pub type_words : JType → ℕ
type_words ty = if (ty.depth == 0) && is_wide_base ty.base then 2 else 1

-- the words of the parameters, and one more for a receiver
abbrev pub words_of : MethodDesc → Bool → ℕ
words_of desc receiver = sum_by type_words desc.params + (if receiver then 1 else 0)

abbrev pub is_primitive_base : BaseType → Bool
is_primitive_base (bases.Primitive primitive) = true
is_primitive_base (bases.Class name) = false

-- whether a type is a primitive type, and so no array
abbrev pub is_primitive_type : JType → Bool
is_primitive_type ty = (ty.depth == 0) && is_primitive_base ty.base
