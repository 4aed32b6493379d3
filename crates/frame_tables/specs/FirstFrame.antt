-- The first frame of a method's code (JVMS 4.10.1.6): the receiver, and the parameters.
use Rattle.std.specs.Prelude.{ℕ, ◌==◌, ◌&&◌, not, Bool, bit_and, nat_eq, List, [], ◌∷◌, ◌++◌, map, codes, if◌then◌else◌}
use Rattle.std.specs.Cmp.Lexicographic.{pointwise}
use Rattle.lists.specs.Texts.{units_of}
use Rattle.class_model.specs.declared.types.Primitive.{Primitive}
use Rattle.class_model.specs.declared.types.Primitive.TheVariants as primitives
use Rattle.class_model.specs.declared.types.BaseType.{BaseType}
use Rattle.class_model.specs.declared.types.BaseType.TheVariants as bases
use Rattle.class_model.specs.declared.types.JType.{JType}
use Rattle.class_model.specs.declared.class.VType.{VType}
use Rattle.class_model.specs.declared.class.VType.TheVariants.{Top, Int, Long, UninitThis, Ref}
use Rattle.class_names.specs.Names.{class_type}
use Rattle.class_file.specs.declared.method.MethodHead.{MethodHead}

-- two names are the same
abbrev pub same_name : List ℕ → List ℕ → Bool
same_name = pointwise nat_eq

-- ACC_STATIC (JVMS 4.6)
abbrev pub is_static : MethodHead → Bool
is_static head = not (bit_and head.flags 8 == 0)

-- `<init>`, that of java/lang/Object aside, begins with an object on which no other `<init>` has run
abbrev pub begins_uninit : List ℕ → MethodHead → Bool
begins_uninit class head = same_name head.name (units_of (codes "<init>")) && not (same_name class (units_of (codes "java/lang/Object")))

-- the receiver has the class of the method, whatever its name is
abbrev pub receiver_type : List ℕ → MethodHead → VType
receiver_type class head = if begins_uninit class head then UninitThis else Ref (class_type class)

-- a static method has no receiver, whatever its name is
abbrev pub receiver : List ℕ → MethodHead → List VType
receiver class head = if is_static head then [] else receiver_type class head ∷ []

-- boolean, byte, char and short are int. Float and double are left out: each of them is one entry `Top`.
abbrev pub primitive_type : Primitive → VType
primitive_type primitives.Boolean = Int
primitive_type primitives.Byte = Int
primitive_type primitives.Char = Int
primitive_type primitives.Short = Int
primitive_type primitives.Int = Int
primitive_type primitives.Long = Long
primitive_type primitives.Float = Top
primitive_type primitives.Double = Top

-- the type of a parameter that is no array
abbrev pub plain_type : JType → BaseType → VType
plain_type ty (bases.Primitive primitive) = primitive_type primitive
plain_type ty (bases.Class name) = Ref ty

abbrev pub param_type : JType → VType
param_type ty = if ty.depth == 0 then plain_type ty ty.base else Ref ty

-- the locals of the first frame, a long as one entry
unfoldable pub first_types : List ℕ → MethodHead → List VType
first_types class head = receiver class head ++ map param_type head.desc.params
