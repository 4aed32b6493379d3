-- Names, types and descriptors: whether two are the same, and the names that the machine knows.
use Rattle.std.specs.Prelude.{ℕ, ◌==◌, ◌&&◌, Bool, true, false, Option, Some, None, List, [], ◌∷◌, nat_eq, codes, bit_and, not}
use Rattle.std.specs.Cmp.Lexicographic.{pointwise}
use Rattle.class_model.specs.declared.types.Primitive.TheVariants as primitive
use Rattle.class_model.specs.declared.types.BaseType.{BaseType}
use Rattle.class_model.specs.declared.types.BaseType.TheVariants as base
use Rattle.class_model.specs.declared.types.JType.{JType}
use Rattle.class_model.specs.declared.types.MethodDesc.{MethodDesc}
use Rattle.class_model.specs.declared.types.FieldRef.{FieldRef}
use Rattle.class_model.specs.Descriptor.{letter_of}

abbrev pub same_text : List ℕ → List ℕ → Bool
same_text a b = pointwise nat_eq a b

abbrev pub same_base : BaseType → BaseType → Bool
same_base (base.Primitive a) (base.Primitive b) = letter_of a == letter_of b
same_base (base.Primitive a) (base.Class d) = false
same_base (base.Class c) (base.Primitive b) = false
same_base (base.Class c) (base.Class d) = same_text c d

abbrev pub same_type : JType → JType → Bool
same_type a b = (a.depth == b.depth) && same_base a.base b.base

abbrev pub same_result : Option JType → Option JType → Bool
same_result None None = true
same_result None (Some b) = false
same_result (Some a) None = false
same_result (Some a) (Some b) = same_type a b

abbrev pub same_desc : MethodDesc → MethodDesc → Bool
same_desc a b = pointwise same_type a.params b.params && same_result a.result b.result

abbrev pub same_field : FieldRef → FieldRef → Bool
same_field a b = same_text a.class b.class && same_text a.name b.name && same_type a.ty b.ty

-- a bit of the flags of a class or a member (JVMS 4.1, 4.5, 4.6)
abbrev pub has_flag : ℕ → ℕ → Bool
has_flag flags bit = not (bit_and flags bit == 0)

abbrev pub private_flag : ℕ
private_flag = 0x0002

abbrev pub static_flag : ℕ
static_flag = 0x0008

abbrev pub native_flag : ℕ
native_flag = 0x0100

abbrev pub class_type : List ℕ → JType
class_type name = record { depth = 0; base = base.Class name }

abbrev pub object_name : List ℕ
object_name = codes "java/lang/Object"

abbrev pub string_name : List ℕ
string_name = codes "java/lang/String"

abbrev pub int_type : JType
int_type = record { depth = 0; base = base.Primitive primitive.Int }

abbrev pub string_array : JType
string_array = record { depth = 1; base = base.Class string_name }

-- what the root calls: `main([Ljava/lang/String;)V` (JVMS 5.2)
abbrev pub main_name : List ℕ
main_name = codes "main"

abbrev pub main_desc : MethodDesc
main_desc = record { params = string_array ∷ []; result = None }

-- a class's initializer: `<clinit>()V` (JVMS 2.9)
abbrev pub initializer_name : List ℕ
initializer_name = codes "<clinit>"

abbrev pub initializer_desc : MethodDesc
initializer_desc = record { params = []; result = None }
