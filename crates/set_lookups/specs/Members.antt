-- What the index holds of members: for each class, name, descriptor and kind of look-up the first member that it takes.
use Rattle.std.specs.Prelude.{◌≡◌, ℕ, ◌==◌, ◌&&◌, Bool, List, [], ◌∷◌, Option, Some, None, slice_get, position, option_copied, option_and_then}
use Rattle.std.specs.Cmp.Lexicographic.{pointwise}
use Rattle.std.specs.Map.{lookup}
use Rattle.class_model.specs.declared.types.JType.{JType}
use Rattle.class_model.specs.declared.types.MethodDesc.{MethodDesc}
use Rattle.class_model.specs.declared.types.FieldRef.{FieldRef}
use Rattle.class_model.specs.declared.class.FieldDef.{FieldDef}
use Rattle.class_model.specs.declared.class.MethodDef.{MethodDef}
use Rattle.class_model.specs.declared.class.ClassDef.{ClassDef}
use Rattle.set_lookups.specs.declared.members.Wanted.{Wanted}
use Rattle.set_lookups.specs.declared.members.Wanted.TheVariants.{Any}
use Rattle.set_lookups.specs.declared.member_key.MemberKey.{MemberKey}
use Rattle.set_lookups.specs.declared.member_key.MemberQuery.{MemberQuery}
use Rattle.set_lookups.specs.Above.{same_name}
use Rattle.set_lookups.specs.Same.{same_type, same_result}
use Rattle.set_lookups.specs.Lookups.{has_method}
use Rattle.set_lookups.specs.Wanted.{passes, same_wanted}

-- what a member is looked up by
pub record Parts : Type 0 where
  pub class : ℕ
  pub wanted : Wanted
  pub name : List ℕ
  pub params : List JType
  pub given : Option JType

abbrev pub desc_of : Parts → MethodDesc
desc_of parts = record { params = parts.params; result = parts.given }

abbrev pub parts_of : ℕ → Wanted → List ℕ → MethodDesc → Parts
parts_of class wanted name desc = record { class = class; wanted = wanted; name = name; params = desc.params; given = desc.result }

-- a field is found by its name and its type, as a method that takes nothing and gives one
abbrev pub parts_of_field : ℕ → FieldRef → Parts
parts_of_field class target = record { class = class; wanted = Any; name = target.name; params = []; given = Some target.ty }

abbrev pub key_parts : MemberKey → Parts
key_parts key = record { class = key.class; wanted = key.wanted; name = key.name; params = key.desc.params; given = key.desc.result }

abbrev pub query_parts : MemberQuery → Parts
query_parts query = record { class = query.class; wanted = query.wanted; name = query.name.now; params = query.params.now; given = option_copied query.given }

abbrev pub same_rest : Parts → Parts → Bool
same_rest a b = same_name a.name b.name && (pointwise same_type a.params b.params && same_result a.given b.given)

abbrev pub same_parts : Parts → Parts → Bool
same_parts a b = (a.class == b.class) && (same_wanted a.wanted b.wanted && same_rest a b)

-- the place that a table has for something
abbrev pub place_in : List (MemberKey × ℕ) → Parts → Option ℕ
place_in entries parts = lookup (λ key. same_parts parts (key_parts key)) entries

-- a method of this name and descriptor that the look-up takes
abbrev pub is_method_of : MethodDef → Parts → Bool
is_method_of method parts = has_method parts.name (desc_of parts) (passes parts.wanted) method

abbrev pub field_parts : ℕ → FieldDef → Parts
field_parts class field = record { class = class; wanted = Any; name = field.name; params = []; given = Some field.ty }

abbrev pub is_field_of : FieldDef → Parts → Bool
is_field_of field parts = same_wanted Any parts.wanted && same_rest (field_parts parts.class field) parts

abbrev pub method_place : List ClassDef → Parts → Option ℕ
method_place set parts = option_and_then (λ class. position (λ method. is_method_of method parts) class.methods) (slice_get set parts.class)

abbrev pub field_place : List ClassDef → Parts → Option ℕ
field_place set parts = option_and_then (λ class. position (λ field. is_field_of field parts) class.fields) (slice_get set parts.class)

pub record AreMembers (set : List ClassDef) (fields methods : List (MemberKey × ℕ)) (none : List JType) : Type 0 where
  pub of_fields : (parts : Parts) → place_in fields parts ≡ field_place set parts
  pub of_methods : (parts : Parts) → place_in methods parts ≡ method_place set parts
  pub empty : none ≡ []
