-- When two types, or two descriptors, are the same; and the words that a method takes.
use Rattle.std.specs.Prelude.{ℕ, ◌==◌, ◌&&◌, Bool, true, false, nat_lt, nat_eq, List, [], ◌∷◌, Option, Some, None, codes}
use Rattle.lists.specs.Texts.{units_of}
use Rattle.std.specs.Cmp.Lexicographic.{pointwise}
use Rattle.class_model.specs.declared.types.Primitive.{Primitive}
use Rattle.class_model.specs.declared.types.Primitive.TheVariants.{Boolean, Byte, Char, Short, Int, Long, Float, Double}
use Rattle.class_model.specs.declared.types.BaseType.{BaseType}
use Rattle.class_model.specs.declared.types.BaseType.TheVariants as bases
use Rattle.class_model.specs.declared.types.JType.{JType}
use Rattle.class_model.specs.declared.types.MethodDesc.{MethodDesc}
use Rattle.class_model.specs.Descriptor.{letter_of}
use Rattle.profile_check.specs.Names.{same_name}

abbrev pub same_primitive : Primitive → Primitive → Bool
same_primitive primitive other = letter_of primitive == letter_of other

abbrev pub same_base : BaseType → BaseType → Bool
same_base (bases.Primitive primitive) (bases.Primitive other) = same_primitive primitive other
same_base (bases.Class name) (bases.Class other) = same_name name other
same_base (bases.Primitive primitive) (bases.Class other) = false
same_base (bases.Class name) (bases.Primitive other) = false

abbrev pub same_type : JType → JType → Bool
same_type ty other = (ty.depth == other.depth) && same_base ty.base other.base

abbrev pub same_result : Option JType → Option JType → Bool
same_result None None = true
same_result (Some ty) (Some other) = same_type ty other
same_result None (Some other) = false
same_result (Some ty) None = false

abbrev pub same_types : List JType → List JType → Bool
same_types = pointwise same_type

abbrev pub same_desc : MethodDesc → MethodDesc → Bool
same_desc desc other = same_types desc.params other.params && same_result desc.result other.result

abbrev pub int_primitive : Primitive
int_primitive = Int

abbrev pub int_base : BaseType
int_base = bases.Primitive Int

abbrev pub int_type : JType
int_type = record { depth = 0; base = int_base }

abbrev pub object_base : BaseType
object_base = bases.Class (units_of (codes "java/lang/Object"))

abbrev pub object_type : JType
object_type = record { depth = 0; base = object_base }

-- `()I`
abbrev pub int_from_nothing : MethodDesc
int_from_nothing = record { params = []; result = Some int_type }

-- `()V`
abbrev pub nothing_from_nothing : MethodDesc
nothing_from_nothing = record { params = []; result = None }

-- `(I)V`
abbrev pub nothing_from_int : MethodDesc
nothing_from_int = record { params = int_type ∷ []; result = None }

-- `(III)V`
abbrev pub nothing_from_three_ints : MethodDesc
nothing_from_three_ints = record { params = int_type ∷ int_type ∷ int_type ∷ []; result = None }

-- `(Ljava/lang/Object;ILjava/lang/Object;II)V`
abbrev pub nothing_from_two_arrays : MethodDesc
nothing_from_two_arrays = record { params = object_type ∷ int_type ∷ object_type ∷ int_type ∷ int_type ∷ []; result = None }
