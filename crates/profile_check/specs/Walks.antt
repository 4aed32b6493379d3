-- The rows of the profile that judge each thing that a class names.
use Rattle.std.specs.Prelude.{ℕ, ◌==◌, ◌&&◌, ◌||◌, Bool, true, false, nat_lt, List, [], Option, Some, None, codes, if◌then◌else◌}
use Rattle.lists.specs.Texts.{units_of}
use Rattle.class_model.specs.declared.types.Primitive.{Primitive}
use Rattle.class_model.specs.declared.types.Primitive.TheVariants.{Float, Double}
use Rattle.class_model.specs.declared.types.BaseType.{BaseType}
use Rattle.class_model.specs.declared.types.BaseType.TheVariants as bases
use Rattle.class_model.specs.declared.class.ClassDef.{ClassDef}
use Rattle.profile_check.specs.declared.rule.Rule.{Rule}
use Rattle.profile_check.specs.declared.rule.Rule.TheVariants as rules
use Rattle.profile_check.specs.declared.rule.Place.{Place}
use Rattle.profile_check.specs.declared.profile.ProfileKind.{ProfileKind}
use Rattle.profile_check.specs.declared.profile.ProfileKind.TheVariants as kind
use Rattle.profile_check.specs.declared.profile.OutOfProfile.{OutOfProfile}
use Rattle.profile_check.specs.Names.{same_name, is_bad_class, is_bad_member, is_bad_method, has_bad_unit, is_reserved, is_reserved_class, is_out}
use Rattle.profile_check.specs.First.{first}
use Rattle.profile_check.specs.Mentions.{Mention, ClassName, UsedClass, FieldName, MethodName, CalledName, SimpleName, TypeUsed, Placed, class_mentions}

abbrev pub is_float : Primitive → Bool
is_float Float = true
is_float Double = true
is_float _ = false

abbrev pub is_float_base : BaseType → Bool
is_float_base (bases.Primitive primitive) = is_float primitive
is_float_base (bases.Class name) = false

-- float type: a type has base float or double
abbrev pub names_float : Mention → Bool
names_float (TypeUsed ty) = is_float_base ty.base
names_float _ = false

-- a test of the class name in a type
abbrev pub in_base : (List ℕ → Bool) → BaseType → Bool
in_base test (bases.Primitive primitive) = false
in_base test (bases.Class name) = test name

-- bad name: a name is none that its kind may be
abbrev pub names_badly : Mention → Bool
names_badly (ClassName name) = is_bad_class name
names_badly (UsedClass name) = is_bad_class name
names_badly (FieldName name) = is_bad_member name
names_badly (MethodName name) = is_bad_method name
names_badly (CalledName class name) = is_bad_method name
names_badly (SimpleName name) = has_bad_unit name
names_badly (TypeUsed ty) = in_base is_bad_class ty.base

-- reserved: a name is kept for written classes
abbrev pub names_reserved : Mention → Bool
names_reserved (ClassName name) = is_reserved_class name
names_reserved (UsedClass name) = is_reserved_class name
names_reserved (FieldName name) = is_reserved name
names_reserved (MethodName name) = is_reserved name
names_reserved (CalledName class name) = is_reserved name
names_reserved (SimpleName name) = is_reserved name
names_reserved (TypeUsed ty) = in_base is_reserved_class ty.base

-- out name: an interface, or what code, a descriptor, a frame or a handler names, is one of the two names that are left out
abbrev pub names_out : Mention → Bool
names_out (UsedClass name) = is_out name
names_out (TypeUsed ty) = in_base is_out ty.base
names_out _ = false

-- array member: a method reference on an array class is that of `clone`
abbrev pub names_array_clone : Mention → Bool
names_array_clone (CalledName class name) = nat_lt 0 class.depth && same_name name (units_of (codes "clone"))
names_array_clone _ = false

abbrev pub refuses : Rule → Mention → Bool
refuses rules.FloatType = names_float
refuses rules.BadName = names_badly
refuses rules.Reserved = names_reserved
refuses rules.OutName = names_out
refuses rules.ArrayMember = names_array_clone

-- of a type whose base is this class
abbrev pub refuses_base_class : Rule → List ℕ → Bool
refuses_base_class rule name = refuses rule (TypeUsed (record { depth = 0; base = bases.Class name }))

-- of a type whose base is this primitive
abbrev pub refuses_primitive : Rule → Primitive → Bool
refuses_primitive rule primitive = refuses rule (TypeUsed (record { depth = 0; base = bases.Primitive primitive }))

abbrev pub name_of_base : BaseType → List ℕ
name_of_base (bases.Primitive primitive) = []
name_of_base (bases.Class name) = name

-- the name that stands there
abbrev pub name_of : Mention → List ℕ
name_of (ClassName name) = name
name_of (UsedClass name) = name
name_of (FieldName name) = name
name_of (MethodName name) = name
name_of (CalledName class name) = name
name_of (SimpleName name) = name
name_of (TypeUsed ty) = name_of_base ty.base

abbrev pub kind_of : Rule → List ℕ → ProfileKind
kind_of rules.FloatType name = kind.FloatType
kind_of rules.BadName name = kind.BadName
kind_of rules.Reserved name = kind.Reserved name
kind_of rules.OutName name = kind.OutName
kind_of rules.ArrayMember name = kind.ArrayMember

-- the refusal at one place
abbrev pub fault_if : Bool → ProfileKind → Place → Option OutOfProfile
fault_if refused what place = if refused then Some (record { kind = what; member = place.member; at = place.at }) else None

unfoldable pub judge : Rule → Place → Mention → Option OutOfProfile
judge rule place mention = fault_if (refuses rule mention) (kind_of rule (name_of mention)) place

abbrev pub judge_placed : Rule → Placed → Option OutOfProfile
judge_placed rule there = judge rule there.place there.mention

-- the first thing that a class names and that the row refuses
abbrev pub walk_row : Rule → ClassDef → Option OutOfProfile
walk_row rule class = first (judge_placed rule) (class_mentions class)
