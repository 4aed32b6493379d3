-- Which type goes to which (JVMS 4.10.1.2, 4.10.1.3), and which frame to which (JVMS 4.10.1.4), without float and double, `Cloneable` and `Serializable`.
use Rattle.std.specs.Prelude.{ℕ, ◌==◌, ◌&&◌, ◌||◌, zero, suc, Bool, true, false, not, bit_and, List, [], ◌∷◌, Option, Some, None, slice_get, option_and_then}
use Rattle.std.specs.List.{list_any}
use Rattle.std.specs.Cmp.Lexicographic.{pointwise}
use Rattle.class_model.specs.declared.types.Primitive.{Primitive}
use Rattle.class_model.specs.declared.types.Primitive.TheVariants as primitives
use Rattle.class_model.specs.declared.types.BaseType.{BaseType}
use Rattle.class_model.specs.declared.types.BaseType.TheVariants as bases
use Rattle.class_model.specs.declared.types.JType.{JType}
use Rattle.class_model.specs.declared.class.ClassDef.{ClassDef}
use Rattle.class_model.specs.declared.class.VType.{VType}
use Rattle.class_model.specs.declared.class.VType.TheVariants.{Top, Int, Long, Null, UninitThis, Ref, Uninit}
use Rattle.class_model.specs.declared.class.Frame.{Frame}
use Rattle.set_lookups.specs.Above.{same_name, find_class, is_subtype}
use Rattle.set_lookups.specs.Same.{same_base}
use Rattle.set_lookups.specs.Lookups.{object_name}

abbrev pub is_interface_at : Option ClassDef → Bool
is_interface_at None = false
is_interface_at (Some class) = not (bit_and class.flags 512 == 0)

-- the name is that of an interface of the set
unfoldable pub is_interface_named : List ClassDef → List ℕ → Bool
is_interface_named set name = is_interface_at (option_and_then (slice_get set) (find_class set name))

abbrev pub is_below_class : List ClassDef → ℕ → Option ℕ → Bool
is_below_class set low None = false
is_below_class set low (Some high) = is_subtype set low high

abbrev pub is_class_below : List ClassDef → Option ℕ → Option ℕ → Bool
is_class_below set None high = false
is_class_below set (Some low) high = is_below_class set low high

-- the first name is that of a class of the set that is the second or below it
unfoldable pub is_below : List ClassDef → List ℕ → List ℕ → Bool
is_below set low high = is_class_below set (find_class set low) (find_class set high)

-- a class or interface to itself, to Object, to any interface, and to what is above it
unfoldable pub class_goes : List ClassDef → List ℕ → List ℕ → Bool
class_goes set low high =
    same_name low high || (same_name high object_name || (is_interface_named set high || is_below set low high))

-- a class or a primitive type at the leaves of arrays, or alone
abbrev pub base_goes : List ClassDef → BaseType → BaseType → Bool
base_goes set (bases.Class low) (bases.Class high) = class_goes set low high
base_goes set (bases.Class low) (bases.Primitive high) = false
base_goes set (bases.Primitive low) (bases.Class high) = false
base_goes set (bases.Primitive low) (bases.Primitive high) = same_base (bases.Primitive low) (bases.Primitive high)

abbrev pub is_object : BaseType → Bool
is_object (bases.Class name) = same_name name object_name
is_object (bases.Primitive primitive) = false

-- types by the number of their dimensions: a class to a class; an array to Object and to no other class; an array to an array where
-- its elements go to those of the other, references as references do, primitives only to themselves
abbrev pub array_goes : List ClassDef → ℕ → BaseType → ℕ → BaseType → Bool
array_goes set zero low zero high = base_goes set low high
array_goes set zero low (suc wanted) high = false
array_goes set (suc depth) low zero high = is_object high
array_goes set (suc depth) low (suc wanted) high = array_goes set depth low wanted high

unfoldable pub type_goes : List ClassDef → JType → JType → Bool
type_goes set low high = array_goes set low.depth low.base high.depth high.base

-- Null to any reference, a reference to one that its type goes to
abbrev pub ref_goes : List ClassDef → VType → JType → Bool
ref_goes set Null ty = true
ref_goes set (Ref low) ty = type_goes set low ty
ref_goes set Top ty = false
ref_goes set Int ty = false
ref_goes set Long ty = false
ref_goes set UninitThis ty = false
ref_goes set (Uninit at) ty = false

abbrev pub is_int : VType → Bool
is_int Int = true
is_int _ = false

abbrev pub is_long : VType → Bool
is_long Long = true
is_long _ = false

abbrev pub is_null : VType → Bool
is_null Null = true
is_null _ = false

abbrev pub is_uninit_this : VType → Bool
is_uninit_this UninitThis = true
is_uninit_this _ = false

-- an object that the `new` of this number made and that is not initialised
abbrev pub is_uninit : ℕ → VType → Bool
is_uninit at (Uninit made) = made == at
is_uninit at _ = false

-- a verification type to another: each to itself, and any to Top
unfoldable pub assignable : List ClassDef → VType → VType → Bool
assignable set ty Top = true
assignable set ty Int = is_int ty
assignable set ty Long = is_long ty
assignable set ty Null = is_null ty
assignable set ty UninitThis = is_uninit_this ty
assignable set ty (Ref high) = ref_goes set ty high
assignable set ty (Uninit at) = is_uninit at ty

-- the type that a value of a primitive type has on the stack and in locals; the profile has neither float nor double
abbrev pub primitive_type : Primitive → VType
primitive_type primitives.Boolean = Int
primitive_type primitives.Byte = Int
primitive_type primitives.Char = Int
primitive_type primitives.Short = Int
primitive_type primitives.Int = Int
primitive_type primitives.Long = Long
primitive_type primitives.Float = Top
primitive_type primitives.Double = Top

abbrev pub type_over : JType → ℕ → BaseType → VType
type_over ty zero (bases.Primitive primitive) = primitive_type primitive
type_over ty zero (bases.Class name) = Ref ty
type_over ty (suc depth) base = Ref ty

-- the type that a value of a declared type has on the stack and in locals
abbrev pub type_of : JType → VType
type_of ty = type_over ty ty.depth ty.base

-- a class or interface by its name
abbrev pub class_type : List ℕ → JType
class_type name = record { depth = 0; base = bases.Class name }

-- the words of an entry: a long has two (JVMS 2.6.1)
abbrev pub width : VType → ℕ
width Long = 2
width _ = 1

-- an entry in front of words: the second word of a long is Top
abbrev pub in_front : VType → List VType → List VType
in_front Long words = Long ∷ Top ∷ words
in_front Top words = Top ∷ words
in_front Int words = Int ∷ words
in_front Null words = Null ∷ words
in_front UninitThis words = UninitThis ∷ words
in_front (Ref ty) words = Ref ty ∷ words
in_front (Uninit at) words = Uninit at ∷ words

-- locals word by word
abbrev pub in_words : List VType → List VType
in_words [] = []
in_words (ty ∷ types) = in_front ty (in_words types)

-- words of locals to words of locals, where those that are missing are Top
abbrev pub words_go : List ClassDef → List VType → List VType → Bool
words_go set words [] = true
words_go set [] (to ∷ wanted) = assignable set Top to && words_go set [] wanted
words_go set (ty ∷ words) (to ∷ wanted) = assignable set ty to && words_go set words wanted

-- the flag of a frame that holds the object of a constructor that has not called another one yet
abbrev pub has_uninit_this : List VType → List VType → Bool
has_uninit_this locals stack = list_any is_uninit_this locals || list_any is_uninit_this stack

-- stacks of equal depth entry by entry, locals word by word, and a frame with the flag to one with it
unfoldable pub frame_assignable : List ClassDef → Frame → Frame → Bool
frame_assignable set from to =
    pointwise (assignable set) from.stack to.stack
    && (words_go set (in_words from.locals) (in_words to.locals)
    && (not (has_uninit_this from.locals from.stack) || has_uninit_this to.locals to.stack))
