-- What the machine itself knows of a set.
use Rattle.std.proofs.Common.{◌≡◌, ◌∙◌, ℕ, ◌<◌, false, List, length, sym, ap, Option, Some, None}
use Rattle.std.specs.Prelude.{slice_get, option_map, codes}
use Rattle.std.specs.Str.{chars}
use Rattle.std.proofs.lemmas.Option.{same_Some, none-some, slice_get_within}
use Rattle.lists.specs.Texts.{units_of}
use Rattle.class_model.specs.declared.types.Primitive.TheVariants as primitive
use Rattle.class_model.specs.declared.types.BaseType.{BaseType}
use Rattle.class_model.specs.declared.types.BaseType.TheVariants as base
use Rattle.class_model.specs.declared.types.FieldRef.{FieldRef}
use Rattle.class_model.specs.declared.class.FieldDef.{FieldDef}
use Rattle.class_model.specs.declared.class.ClassDef.{ClassDef}
use Rattle.set_lookups.specs.declared.ids.ClassId.{ClassId}
use Rattle.set_lookups.specs.Above.{find_class}
use Rattle.set_lookups.specs.Lookups.{Member, member_of, field_id, resolve_field}
use Rattle.class_set.specs.Core.{thrown_names}
use Rattle.class_set.specs.Closed.{Closed}
use Rattle.machine_frames.specs.declared.flow.Fault.{Fault}
use Rattle.machine_frames.specs.declared.flow.Fault.TheVariants as fault
use Rattle.machine_frames.specs.Acts.{exception_of}
use Rattle.run_state.specs.Marks.{value_field}
use Rattle.run_state.specs.Texts.{object_name, string_name, string_array}
use Rattle.run_state.specs.SetLooks.{is_static}
use Rattle.linked_code.specs.declared.program.FaultClasses.{FaultClasses}
use Rattle.linked_code.specs.Links.{class_of_fault}
use Rattle.look_laws.proofs.FieldMembers.{field_member}
use Rattle.program_links.specs.Ready.{FindsField}
use Rattle.program_links.specs.WorldOf.{name_at}
use Rattle.program_links.proofs.Fitting.{name_found, object_there, string_there, thrown_there}

-- classes that a closed set has
pub thrown_missing : (set : List ClassDef) (place : ℕ) (name : List ℕ) → Closed set → slice_get thrown_names place ≡ Some name → find_class set name ≡ None → ⊥
thrown_missing set place name closed at none = let k = thrown_there set place name closed at in none-some k.0 (sym none ∙ k.1)

pub thrown_found : (set : List ClassDef) (number : ℕ) (name : List ℕ) → find_class set name ≡ Some number → name_at set number ≡ name
thrown_found set number name e = name_found set name number e

pub object_missing : (set : List ClassDef) → Closed set → find_class set (units_of (codes "java/lang/Object")) ≡ None → ⊥
object_missing set closed none = let k = object_there set closed in none-some k.0 (sym none ∙ k.1)

pub object_found : (set : List ClassDef) (number : ℕ) → find_class set (units_of (codes "java/lang/Object")) ≡ Some number → name_at set number ≡ object_name
unfolding chars
object_found set number e = name_found set (units_of (codes "java/lang/Object")) number e

pub string_missing : (set : List ClassDef) → Closed set → find_class set (units_of (codes "java/lang/String")) ≡ None → ⊥
string_missing set closed none = let k = string_there set closed in none-some k.0 (sym none ∙ k.1)

pub string_found : (set : List ClassDef) (number : ℕ) → find_class set (units_of (codes "java/lang/String")) ≡ Some number → string_name ≡ name_at set number
unfolding chars
string_found set number e = sym (name_found set (units_of (codes "java/lang/String")) number e)

pub faults_are : (set : List ClassDef) (f : FaultClasses) → name_at set f.arithmetic ≡ units_of (codes "java/lang/ArithmeticException") → name_at set f.array_index ≡ units_of (codes "java/lang/ArrayIndexOutOfBoundsException") → name_at set f.array_store ≡ units_of (codes "java/lang/ArrayStoreException") → name_at set f.class_cast ≡ units_of (codes "java/lang/ClassCastException") → name_at set f.incompatible_change ≡ units_of (codes "java/lang/IncompatibleClassChangeError") → name_at set f.negative_size ≡ units_of (codes "java/lang/NegativeArraySizeException") → name_at set f.null_pointer ≡ units_of (codes "java/lang/NullPointerException") → (k : Fault) → exception_of k ≡ name_at set (class_of_fault f k)
unfolding chars
faults_are set f a i s c t n p fault.Arithmetic = sym a
faults_are set f a i s c t n p fault.NullPointer = sym p
faults_are set f a i s c t n p fault.IncompatibleChange = sym t
faults_are set f a i s c t n p fault.NegativeSize = sym n
faults_are set f a i s c t n p fault.ClassCast = sym c
faults_are set f a i s c t n p fault.ArrayIndex = sym i
faults_are set f a i s c t n p fault.ArrayStore = sym s

-- names, as they are spelled
pub string_spelled : (of : BaseType) → of ≡ base.Class (units_of (codes "java/lang/String")) → of ≡ string_array.base
unfolding chars
string_spelled of e = e

pub value_spelled : (target : FieldRef) → target ≡ record { class = units_of (codes "java/lang/String"); name = units_of (codes "value"); ty = record { depth = 1; base = base.Primitive primitive.Char } } → target ≡ value_field
unfolding chars
value_spelled target e = e

-- a field of an object
pub shown_field : (found : Option Member) (class : ClassId) (index : ℕ) → option_map field_id found ≡ Some (class, index) → found ≡ Some (member_of class.0 index)
shown_field None class index h = absurd (none-some (class, index) h)
shown_field (Some m) class index h = ap (λ (id : ClassId × ℕ). let k : ClassId = id.0 in Some (member_of k.0 id.1)) (same_Some (field_id m) (class, index) h)

pub class_within : (set : List ClassDef) (ref : FieldRef) (class index : ℕ) → resolve_field set ref ≡ Some (member_of class index) → class < length set
class_within set ref class index h = let is = field_member set ref (member_of class index) h in slice_get_within set class is.class is.there

pub field_found : (set : List ClassDef) (ref : FieldRef) (class index : ℕ) (of : ClassDef) (field : FieldDef) → resolve_field set ref ≡ Some (member_of class index) → slice_get set class ≡ Some of → slice_get of.fields index ≡ Some field → is_static field.flags ≡ false → FindsField set ref false
field_found set ref class index of field h there at kind = record { member = member_of class index; class = of; field = field; resolves = h; there = there; at = at; kind = kind }
