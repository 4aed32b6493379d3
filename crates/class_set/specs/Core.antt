-- The core classes that a set has to have, and their shapes. This project's own rules.
use Rattle.std.specs.Prelude.{ℕ, ◌&&◌, ◌||◌, Bool, true, false, not, List, [], ◌∷◌, Option, Some, None, slice_get, codes, if◌then◌else◌}
use Rattle.std.specs.Option.{option_or}
use Rattle.std.specs.List.{list_any}
use Rattle.lists.specs.Texts.{units_of}
use Rattle.class_model.specs.declared.types.Primitive.TheVariants.{Char, Int}
use Rattle.class_model.specs.declared.types.BaseType.TheVariants as bases
use Rattle.class_model.specs.declared.types.JType.{JType}
use Rattle.class_model.specs.declared.types.MethodDesc.{MethodDesc}
use Rattle.class_model.specs.declared.insn.Kind.{Kind}
use Rattle.class_model.specs.declared.insn.Insn.{Insn}
use Rattle.class_model.specs.declared.insn.Insn.TheVariants.{Return}
use Rattle.class_model.specs.declared.class.CodeDef.{CodeDef}
use Rattle.class_model.specs.declared.class.FieldDef.{FieldDef}
use Rattle.class_model.specs.declared.class.MethodDef.{MethodDef}
use Rattle.class_model.specs.declared.class.ClassDef.{ClassDef}
use Rattle.set_lookups.specs.Above.{same_name, find_class, is_subtype}
use Rattle.set_lookups.specs.Same.{same_type, same_desc}
use Rattle.set_lookups.specs.Flags.{is_static, is_final, is_abstract, is_interface}
use Rattle.set_lookups.specs.First.{first, holds_of}
use Rattle.set_lookups.specs.Lookups.{object_name}

abbrev pub string_name : List ℕ
string_name = units_of (codes "java/lang/String")

abbrev pub throwable_name : List ℕ
throwable_name = units_of (codes "java/lang/Throwable")

-- the seven exceptions that an instruction throws (JVMS 6.5), by name
abbrev pub thrown_names : List (List ℕ)
thrown_names =
    units_of (codes "java/lang/ArithmeticException")
    ∷ units_of (codes "java/lang/ArrayIndexOutOfBoundsException")
    ∷ units_of (codes "java/lang/ArrayStoreException")
    ∷ units_of (codes "java/lang/ClassCastException")
    ∷ units_of (codes "java/lang/IncompatibleClassChangeError")
    ∷ units_of (codes "java/lang/NegativeArraySizeException")
    ∷ units_of (codes "java/lang/NullPointerException")
    ∷ []

abbrev pub init_name : List ℕ
init_name = units_of (codes "<init>")

abbrev pub clinit_name : List ℕ
clinit_name = units_of (codes "<clinit>")

abbrev pub int_type : JType
int_type = record { depth = 0; base = bases.Primitive Int }

abbrev pub chars_type : JType
chars_type = record { depth = 1; base = bases.Primitive Char }

-- `()V`
abbrev pub nothing_from_nothing : MethodDesc
nothing_from_nothing = record { params = []; result = None }

abbrev pub is_none_kind : Option Kind → Bool
is_none_kind None = true
is_none_kind (Some kind) = false

abbrev pub is_plain_return : Insn → Bool
is_plain_return (Return kind) = is_none_kind kind
is_plain_return _ = false

abbrev pub is_one_return : List Insn → Bool
is_one_return [] = false
is_one_return (insn ∷ []) = is_plain_return insn
is_one_return (insn ∷ next ∷ insns) = false

abbrev pub returns_at_once : Option CodeDef → Bool
returns_at_once None = false
returns_at_once (Some code) = is_one_return code.insns

abbrev pub has_clinit : ClassDef → Bool
has_clinit class = list_any (λ method. same_name method.name clinit_name) class.methods

abbrev pub is_plain_init : MethodDef → Bool
is_plain_init method = same_name method.name init_name && same_desc method.desc nothing_from_nothing && returns_at_once method.code

-- a static field, or an int field for an object's own tag
abbrev pub may_be_in_object : FieldDef → Bool
may_be_in_object field = is_static field.flags || (same_name field.name (units_of (codes "$$PHOSPHOR_TAG")) && same_type field.ty int_type)

abbrev pub is_object : ClassDef → Bool
is_object class =
    not (is_abstract class.flags) && list_any is_plain_init class.methods && not (has_clinit class) && not (list_any (λ field. not (may_be_in_object field)) class.fields)

abbrev pub is_value_field : FieldDef → Bool
is_value_field field = not (is_static field.flags) && same_name field.name (units_of (codes "value")) && same_type field.ty chars_type

abbrev pub is_string : ClassDef → Bool
is_string class =
    is_final class.flags && holds_of (λ name. same_name name object_name) class.super_name && list_any is_value_field class.fields && not (has_clinit class)

abbrev pub is_throwable : ClassDef → Bool
is_throwable class = not (is_interface class)

-- a class that is not abstract, and a subtype of `java/lang/Throwable`
abbrev pub is_thrown : List ClassDef → ℕ → ClassDef → Bool
is_thrown set number class = not (is_interface class) && not (is_abstract class.flags) && holds_of (is_subtype set number) (find_class set throwable_name)

-- the class of a name is there and has a shape
abbrev pub has_shape : List ClassDef → (ℕ → ClassDef → Bool) → List ℕ → Bool
has_shape set shape name = holds_of (λ number. holds_of (shape number) (slice_get set number)) (find_class set name)

-- the name of a core class that is absent or has not its shape
abbrev pub if_wrong : List ClassDef → (ℕ → ClassDef → Bool) → List ℕ → Option (List ℕ)
if_wrong set shape name = if has_shape set shape name then None else Some name

-- the first of some names whose class is no exception that an instruction can throw
abbrev pub thrown_wrong : List ClassDef → List (List ℕ) → Option (List ℕ)
thrown_wrong set names = first (if_wrong set (is_thrown set)) names

-- `java/lang/Throwable`, then the exceptions that an instruction throws
abbrev pub exceptions : List ClassDef → Option (List ℕ)
exceptions set = option_or (if_wrong set (λ number. is_throwable) throwable_name) (thrown_wrong set thrown_names)

-- core: a core class is absent or has not its shape
unfoldable pub core : List ClassDef → Option (List ℕ)
core set =
    option_or (if_wrong set (λ number. is_object) object_name)
    (option_or (if_wrong set (λ number. is_string) string_name)
    (exceptions set))
