-- The tests of the profile on one field or one method.
use Rattle.std.specs.Prelude.{ℕ, ◌==◌, ◌&&◌, ◌||◌, Bool, true, false, not, nat_lt, nat_eq, List, [], ◌∷◌, ◌++◌, take, Option, Some, None, is_some, codes, if◌then◌else◌}
use Rattle.lists.specs.Texts.{units_of}
use Rattle.std.specs.List.{list_any}
use Rattle.class_model.specs.declared.types.Primitive.{Primitive}
use Rattle.class_model.specs.declared.types.Primitive.TheVariants.{Boolean, Byte, Char, Short, Int, Long, Float, Double}
use Rattle.class_model.specs.declared.types.BaseType.{BaseType}
use Rattle.class_model.specs.declared.types.BaseType.TheVariants as bases
use Rattle.class_model.specs.declared.types.JType.{JType}
use Rattle.class_model.specs.declared.types.MethodDesc.{MethodDesc}
use Rattle.class_model.specs.declared.class.Constant.{Constant}
use Rattle.class_model.specs.declared.class.Constant.TheVariants as constants
use Rattle.class_model.specs.declared.class.FieldDef.{FieldDef}
use Rattle.class_model.specs.declared.class.MethodDef.{MethodDef}
use Rattle.class_model.specs.declared.class.ClassDef.{ClassDef}
use Rattle.class_model.specs.Descriptor.{words_of}
use Rattle.profile_check.specs.declared.profile.Names.{Names}
use Rattle.profile_check.specs.declared.profile.Names.TheVariants.{Source, Written}
use Rattle.profile_check.specs.Flags.{has, public_flag, static_flag, final_flag, native_flag, interface_flag, abstract_flag, has_bad_field_flags, has_bad_method_flags}
use Rattle.profile_check.specs.Names.{same_name, is_init, is_clinit}
use Rattle.profile_check.specs.Types.{same_type, same_desc, int_from_nothing, nothing_from_nothing, nothing_from_int, nothing_from_three_ints, nothing_from_two_arrays}

abbrev pub is_interface : ClassDef → Bool
is_interface class = has class.flags interface_flag

abbrev pub is_static : MethodDef → Bool
is_static method = has method.flags static_flag

-- field flags
abbrev pub has_field_flags : ClassDef → FieldDef → Bool
has_field_flags class field = has_bad_field_flags (is_interface class) field.flags

-- a primitive that an int constant fits
abbrev pub fits_int : Primitive → Bool
fits_int Boolean = true
fits_int Byte = true
fits_int Char = true
fits_int Short = true
fits_int Int = true
fits_int _ = false

abbrev pub is_long : Primitive → Bool
is_long Long = true
is_long _ = false

-- the constant of a static field fits what its type has at its base (JVMS 4.7.2)
abbrev pub fits_base : Constant → BaseType → Bool
fits_base (constants.Int number) (bases.Primitive primitive) = fits_int primitive
fits_base (constants.Int number) (bases.Class name) = false
fits_base (constants.Long number) (bases.Primitive primitive) = is_long primitive
fits_base (constants.Long number) (bases.Class name) = false
fits_base (constants.Text text) (bases.Primitive primitive) = false
fits_base (constants.Text text) (bases.Class name) = same_name name (units_of (codes "java/lang/String"))

abbrev pub fits_type : Constant → JType → Bool
fits_type constant ty = (ty.depth == 0) && fits_base constant ty.base

abbrev pub is_bad_constant : FieldDef → Option Constant → Bool
is_bad_constant field None = false
is_bad_constant field (Some constant) = has field.flags static_flag && not (has field.flags final_flag && fits_type constant field.ty)

-- constant: of a static field that is not final, or of a type that it does not fit
abbrev pub has_bad_constant : FieldDef → Bool
has_bad_constant field = is_bad_constant field field.constant

-- code shape: an abstract or native method has code, or another has none
abbrev pub has_bad_code_shape : MethodDef → Bool
has_bad_code_shape method =
    if has method.flags abstract_flag || has method.flags native_flag then is_some method.code else not (is_some method.code)

-- a native method of the base library
pub record Native : Type 0 where
  pub class : List ℕ
  pub name : List ℕ
  pub desc : MethodDesc

abbrev pub read_native : Native
read_native = record { class = units_of (codes "sys/Native"); name = units_of (codes "read"); desc = int_from_nothing }

abbrev pub write_native : Native
write_native = record { class = units_of (codes "sys/Native"); name = units_of (codes "write"); desc = nothing_from_int }

abbrev pub exit_native : Native
exit_native = record { class = units_of (codes "sys/Native"); name = units_of (codes "exit"); desc = nothing_from_int }

abbrev pub arraycopy_native : Native
arraycopy_native = record { class = units_of (codes "java/lang/System"); name = units_of (codes "arraycopy"); desc = nothing_from_two_arrays }

-- of the written set alone
abbrev pub report_native : Native
report_native = record { class = units_of (codes "phosphor/Report"); name = units_of (codes "tag"); desc = nothing_from_three_ints }

-- the natives that a class may declare, all static
abbrev pub natives : Names → List Native
natives Source = read_native ∷ write_native ∷ exit_native ∷ arraycopy_native ∷ []
natives Written = read_native ∷ write_native ∷ exit_native ∷ arraycopy_native ∷ report_native ∷ []

abbrev pub is_that_native : ClassDef → MethodDef → Native → Bool
is_that_native class method native = same_name class.name native.class && same_name method.name native.name && same_desc method.desc native.desc

-- native: a native method that is not listed
abbrev pub is_bad_native : Names → ClassDef → MethodDef → Bool
is_bad_native names class method =
    has method.flags native_flag && not (is_static method && list_any (is_that_native class method) (natives names))

-- interface method: in an interface, a method other than public abstract ones and `<clinit>`
abbrev pub is_bad_in_interface : ClassDef → MethodDef → Bool
is_bad_in_interface class method =
    is_interface class && not (is_clinit method.name || (has method.flags public_flag && has method.flags abstract_flag))

-- `<init>` that is static, final, abstract, native, in an interface or not void
abbrev pub is_bad_init : ClassDef → MethodDef → Bool
is_bad_init class method =
    is_init method.name && (is_static method || has method.flags final_flag || has method.flags abstract_flag || has method.flags native_flag || is_interface class || is_some method.desc.result)

-- `<clinit>` that is not static with `()V`
abbrev pub is_bad_clinit : MethodDef → Bool
is_bad_clinit method = is_clinit method.name && not (is_static method && same_desc method.desc nothing_from_nothing)

-- initializer
abbrev pub is_bad_initializer : ClassDef → MethodDef → Bool
is_bad_initializer class method = is_bad_init class method || is_bad_clinit method

-- parameters: more than 255 words, the receiver counted
abbrev pub has_many_words : MethodDef → Bool
has_many_words method = nat_lt 255 (words_of method.desc (not (is_static method)))

abbrev pub same_field : FieldDef → FieldDef → Bool
same_field field other = same_name field.name other.name && same_type field.ty other.ty

abbrev pub same_method : MethodDef → MethodDef → Bool
same_method method other = same_name method.name other.name && same_desc method.desc other.desc
