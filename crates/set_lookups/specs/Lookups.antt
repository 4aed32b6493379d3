-- The look-ups of members in a set of classes: resolution (JVMS 5.4.3.2, 5.4.3.3, 5.4.3.4, as narrowed here) and selection by name and descriptor. Each is given for every list of classes: no way up takes more steps than there are classes.
use Rattle.std.specs.Prelude.{ℕ, ◌==◌, ◌&&◌, zero, suc, Bool, true, List, [], ◌∷◌, ◌++◌, length, flat_map, Option, Some, None, slice_get, option_map, option_and_then, codes, position, if◌then◌else◌}
use Rattle.std.specs.Option.{option_or}
use Rattle.lists.specs.Texts.{units_of}
use Rattle.class_model.specs.declared.types.BaseType.{BaseType}
use Rattle.class_model.specs.declared.types.BaseType.TheVariants as bases
use Rattle.class_model.specs.declared.types.JType.{JType}
use Rattle.class_model.specs.declared.types.MethodDesc.{MethodDesc}
use Rattle.class_model.specs.declared.types.FieldRef.{FieldRef}
use Rattle.class_model.specs.declared.types.MethodRef.{MethodRef}
use Rattle.class_model.specs.declared.class.FieldDef.{FieldDef}
use Rattle.class_model.specs.declared.class.MethodDef.{MethodDef}
use Rattle.class_model.specs.declared.class.ClassDef.{ClassDef}
use Rattle.set_lookups.specs.declared.ids.ClassId.{ClassId}
use Rattle.set_lookups.specs.declared.ids.MethodId.{MethodId}
use Rattle.set_lookups.specs.Above.{same_name, find_class, super_of, interfaces_of, at_class}
use Rattle.set_lookups.specs.Same.{same_type, same_desc}
use Rattle.set_lookups.specs.First.{first}
use Rattle.set_lookups.specs.Flags.{is_inherited}

-- a member: its class, and its number among the fields or the methods of that class
abbrev pub Member : Type 0
Member = MethodId

abbrev pub member_of : ℕ → ℕ → Member
member_of class index = record { class = class; index = index }

abbrev pub member_in : ℕ → Option ℕ → Option Member
member_in class index = option_map (member_of class) index

-- a member that is a field, as its class and its number
abbrev pub field_id : Member → ClassId × ℕ
field_id member = (record { 0 = member.class }, member.index)

abbrev pub has_field : FieldRef → FieldDef → Bool
has_field target field = same_name field.name target.name && same_type field.ty target.ty

abbrev pub field_here : FieldRef → ℕ → Option ClassDef → Option Member
field_here target number None = None
field_here target number (Some class) = member_in number (position (has_field target) class.fields)

abbrev pub declared_field : List ClassDef → FieldRef → ℕ → Option Member
declared_field set target number = field_here target number (slice_get set number)

-- the superinterfaces and the superclass of a class by number
abbrev pub interfaces_at : List ClassDef → ℕ → List ℕ
interfaces_at set number = at_class (interfaces_of set) (slice_get set number)

abbrev pub super_at : List ClassDef → ℕ → List ℕ
super_at set number = at_class (super_of set) (slice_get set number)

-- the field of a class, in at most so many steps up: its own, else the first of its superinterfaces, else that of its superclass, each by the same rule
unfoldable pub field_from : ℕ → List ClassDef → FieldRef → ℕ → Option Member
field_from zero set target number = declared_field set target number
field_from (suc steps) set target number =
    option_or (declared_field set target number)
    (option_or (first (field_from steps set target) (interfaces_at set number))
    (first (field_from steps set target) (super_at set number)))

-- the field that a reference names
unfoldable pub resolve_field : List ClassDef → FieldRef → Option Member
resolve_field set target = option_and_then (field_from (length set) set target) (find_class set target.class)

-- the first method of a class with this name and descriptor for which a test holds
abbrev pub has_method : List ℕ → MethodDesc → (MethodDef → Bool) → MethodDef → Bool
has_method name desc test method = same_name method.name name && same_desc method.desc desc && test method

abbrev pub method_here : List ℕ → MethodDesc → (MethodDef → Bool) → ℕ → Option ClassDef → Option Member
method_here name desc test number None = None
method_here name desc test number (Some class) = member_in number (position (has_method name desc test) class.methods)

abbrev pub declared : List ClassDef → List ℕ → MethodDesc → (MethodDef → Bool) → ℕ → Option Member
declared set name desc test number = method_here name desc test number (slice_get set number)

-- a class and its superclasses upwards, in at most so many steps
unfoldable pub chain : ℕ → List ClassDef → ℕ → List ℕ
chain zero set number = number ∷ []
chain (suc steps) set number = number ∷ flat_map (chain steps set) (super_at set number)

-- a class and its superclasses upwards
unfoldable pub supers : List ClassDef → ℕ → List ℕ
supers set number = chain (length set) set number

-- these classes, then the superinterfaces directly above them, and so on, in at most so many levels
unfoldable pub levels : ℕ → List ClassDef → List ℕ → List ℕ
levels zero set numbers = numbers
levels (suc steps) set numbers = numbers ++ levels steps set (flat_map (interfaces_at set) numbers)

-- all superinterfaces of a class in breadth order, those that the class and its superclasses name first
unfoldable pub superinterfaces : List ClassDef → ℕ → List ℕ
superinterfaces set number = levels (length set) set (flat_map (interfaces_at set) (supers set number))

abbrev pub any_method : MethodDef → Bool
any_method method = true

-- the method of a class by name and descriptor: in the class and its superclasses upwards, else the first in breadth order of all superinterfaces
unfoldable pub method_from : List ClassDef → List ℕ → MethodDesc → ℕ → Option Member
method_from set name desc number = first (declared set name desc any_method) (supers set number ++ superinterfaces set number)

abbrev pub object_name : List ℕ
object_name = units_of (codes "java/lang/Object")

abbrev pub base_name : BaseType → Option (List ℕ)
base_name (bases.Class name) = Some name
base_name (bases.Primitive primitive) = None

-- the class whose methods a reference on this class or array sees; an array has those of `java/lang/Object`
abbrev pub receiver_name : JType → Option (List ℕ)
receiver_name ty = if ty.depth == 0 then base_name ty.base else Some object_name

-- the method that a reference names
unfoldable pub resolve_method : List ClassDef → MethodRef → Option Member
resolve_method set target = option_and_then (method_from set target.name target.desc) (option_and_then (find_class set) (receiver_name target.class))

-- the method that a receiver of this class has for a name and a descriptor: the first up its superclasses that is neither static nor private
unfoldable pub select_by : List ClassDef → List ℕ → MethodDesc → ℕ → Option Member
select_by set name desc number = first (declared set name desc is_inherited) (supers set number)

abbrev pub method_at : List ClassDef → Member → Option MethodDef
method_at set member = option_and_then (λ class. slice_get class.methods member.index) (slice_get set member.class)

abbrev pub field_at : List ClassDef → Member → Option FieldDef
field_at set member = option_and_then (λ class. slice_get class.fields member.index) (slice_get set member.class)

-- the method that a receiver of this class has for a method
unfoldable pub select : List ClassDef → ℕ → Member → Option Member
select set number target = option_and_then (λ method. select_by set method.name method.desc number) (method_at set target)
