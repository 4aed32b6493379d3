-- The rows of the profile, each with the first place that it refuses. All are this project's own.
use Rattle.std.specs.Prelude.{ℕ, ◌+◌, ◌==◌, ◌&&◌, ◌||◌, Bool, true, false, not, List, [], ◌∷◌, ◌++◌, length, Option, Some, None, is_some, is_none, position, option_map, codes, if◌then◌else◌}
use Rattle.lists.specs.Texts.{units_of}
use Rattle.std.specs.List.{list_any}
use Rattle.std.specs.Option.{option_or}
use Rattle.class_model.specs.declared.class.FieldDef.{FieldDef}
use Rattle.class_model.specs.declared.class.MethodDef.{MethodDef}
use Rattle.class_model.specs.declared.class.ClassDef.{ClassDef}
use Rattle.profile_check.specs.declared.rule.Rule.TheVariants as rules
use Rattle.profile_check.specs.declared.profile.Names.{Names}
use Rattle.profile_check.specs.declared.profile.Names.TheVariants.{Source, Written}
use Rattle.profile_check.specs.declared.profile.ProfileKind.{ProfileKind}
use Rattle.profile_check.specs.declared.profile.ProfileKind.TheVariants as kind
use Rattle.profile_check.specs.declared.profile.OutOfProfile.{OutOfProfile}
use Rattle.profile_check.specs.Flags.{has_bad_class_flags, has_bad_method_flags}
use Rattle.profile_check.specs.Names.{same_name}
use Rattle.profile_check.specs.Mentions.{outside, in_member}
use Rattle.profile_check.specs.Walks.{fault_if, walk_row}
use Rattle.profile_check.specs.Members.{is_interface, has_field_flags, has_bad_constant, has_bad_code_shape, is_bad_native, is_bad_in_interface, is_bad_initializer, has_many_words, same_field, same_method}

abbrev pub is_known_version : ℕ → Bool
is_known_version major = (major == 50) || (major == 51) || (major == 52)

abbrev pub version_row : ClassDef → Option OutOfProfile
version_row class = fault_if (not (is_known_version class.major)) (kind.Version class.major) outside

abbrev pub class_flags_row : ClassDef → Option OutOfProfile
class_flags_row class = fault_if (has_bad_class_flags class.flags) kind.ClassFlags outside

-- a refusal in the member with this number
abbrev pub fault_in : ProfileKind → Option ℕ → Option OutOfProfile
fault_in what member = option_map (λ k. record { kind = what; member = Some k; at = None }) member

-- the first field that fails a test
abbrev pub field_row : ProfileKind → (FieldDef → Bool) → ClassDef → Option OutOfProfile
field_row what test class = fault_in what (position test class.fields)

-- the first method that fails a test; fields are counted before it
abbrev pub method_row : ProfileKind → (MethodDef → Bool) → ClassDef → Option OutOfProfile
method_row what test class = fault_in what (option_map (λ k. length class.fields + k) (position test class.methods))

abbrev pub field_flags_row : ClassDef → Option OutOfProfile
field_flags_row class = field_row kind.FieldFlags (has_field_flags class) class

abbrev pub method_flags_row : ClassDef → Option OutOfProfile
method_flags_row class = method_row kind.MethodFlags (λ method. has_bad_method_flags method.flags) class

abbrev pub float_type_row : ClassDef → Option OutOfProfile
float_type_row class = walk_row rules.FloatType class

abbrev pub bad_name_row : ClassDef → Option OutOfProfile
bad_name_row class = walk_row rules.BadName class

-- of a user's classes alone: written classes may have the names that are kept for them
abbrev pub reserved_row : Names → ClassDef → Option OutOfProfile
reserved_row Source class = walk_row rules.Reserved class
reserved_row Written class = None

abbrev pub code_shape_row : ClassDef → Option OutOfProfile
code_shape_row class = method_row kind.CodeShape has_bad_code_shape class

abbrev pub native_row : Names → ClassDef → Option OutOfProfile
native_row names class = method_row kind.Native (is_bad_native names class) class

abbrev pub interface_method_row : ClassDef → Option OutOfProfile
interface_method_row class = method_row kind.InterfaceMethod (is_bad_in_interface class) class

abbrev pub initializer_row : ClassDef → Option OutOfProfile
initializer_row class = method_row kind.Initializer (is_bad_initializer class) class

abbrev pub constant_row : ClassDef → Option OutOfProfile
constant_row class = field_row kind.Constant has_bad_constant class

-- the first item that one before it equals, where these stand before the list
unfoldable pub first_again : {A : Type 0} → (A → A → Bool) → List A → ℕ → List A → Option ℕ
first_again same earlier at [] = None
first_again same earlier at (x ∷ xs) = if list_any (same x) earlier then Some at else first_again same (earlier ++ x ∷ []) (at + 1) xs

-- twice: the first field that has the name and type of an earlier field, else the first such method
abbrev pub twice_row : ClassDef → Option OutOfProfile
twice_row class =
    fault_in kind.TwiceMember
    (option_or (first_again same_field [] 0 class.fields) (option_map (λ k. length class.fields + k) (first_again same_method [] 0 class.methods)))

abbrev pub params_row : ClassDef → Option OutOfProfile
params_row class = method_row kind.Params has_many_words class

abbrev pub is_object : Option (List ℕ) → Bool
is_object None = false
is_object (Some name) = same_name name (units_of (codes "java/lang/Object"))

-- super: `java/lang/Object` has a superclass or is an interface; another class has none; the superclass of an interface is not `java/lang/Object`
abbrev pub has_bad_super : ClassDef → Bool
has_bad_super class =
    if same_name class.name (units_of (codes "java/lang/Object")) then is_some class.super_name || is_interface class
    else is_none class.super_name || (is_interface class && not (is_object class.super_name))

abbrev pub super_row : ClassDef → Option OutOfProfile
super_row class = fault_if (has_bad_super class) kind.Super outside

abbrev pub out_name_row : ClassDef → Option OutOfProfile
out_name_row class = walk_row rules.OutName class

abbrev pub array_member_row : ClassDef → Option OutOfProfile
array_member_row class = walk_row rules.ArrayMember class
