-- What the look-ups by number find, as the machine has it.
use Rattle.std.specs.Prelude.{ℕ, Bool, not, false, List, [], ◌+◌, length, take, filter, Option, Some, None, slice_get, position, option_map, option_and_then, flat_map, option_to_list}
use Rattle.class_model.specs.declared.types.FieldRef.{FieldRef}
use Rattle.class_model.specs.declared.class.FieldDef.{FieldDef}
use Rattle.class_model.specs.declared.class.MethodDef.{MethodDef}
use Rattle.class_model.specs.declared.class.ClassDef.{ClassDef}
use Rattle.set_lookups.specs.Above.{find_class, is_subtype}
use Rattle.set_lookups.specs.Lookups.{Member, member_in}
use Rattle.run_state.specs.State.{Method}
use Rattle.run_state.specs.References.{given}
use Rattle.run_state.specs.Looks.{Static}
use Rattle.run_state.specs.SetLooks.{shown_method, is_initializer, is_static, layout, all_statics, text_of}

-- a reference to a field, by the class that declares it
abbrev pub field_in : FieldRef → ClassDef → FieldRef
field_in ref class = record ref { class = class.name }

abbrev pub shown_field : List ClassDef → FieldRef → Member → Option FieldRef
shown_field set ref member = option_map (field_in ref) (slice_get set member.class)

-- how many of the fields in front of one are of an object, or static
abbrev pub is_of_object : FieldDef → Bool
is_of_object d = not (is_static d.flags)

abbrev pub is_of_class : FieldDef → Bool
is_of_class d = is_static d.flags

abbrev pub count_before : (FieldDef → Bool) → ℕ → ClassDef → ℕ
count_before kind index class = length (filter kind (take index class.fields))

-- the fields of an object of a class's superclasses
abbrev pub layout_above : List ClassDef → ClassDef → List FieldRef
layout_above set class = given class.super_name [] (layout set)

-- the static fields of the classes in front of a class
abbrev pub statics_before : List ClassDef → ℕ → List FieldRef
statics_before set number = all_statics (take number set)

-- a static field, as the machine finds it
abbrev pub static_of : List ClassDef → ℕ → ClassDef → ℕ → FieldDef → Static
static_of set number class index field = record {
  class = class.name;
  place = length (statics_before set number) + count_before is_of_class index class;
  text = text_of field.constant;
}

-- the first method of a class that passes a test
abbrev pub method_with : (MethodDef → Bool) → ℕ → Option ClassDef → Option Member
method_with test number None = None
method_with test number (Some class) = member_in number (position test class.methods)

abbrev pub first_with : List ClassDef → (MethodDef → Bool) → ℕ → Option Member
first_with set test number = method_with test number (slice_get set number)

-- the initializer of a class
abbrev pub initializer_at : List ClassDef → ℕ → Option Method
initializer_at set number = option_and_then (shown_method set) (first_with set is_initializer number)

-- the classes of these numbers
abbrev pub classes_of : List ClassDef → List ℕ → List ClassDef
classes_of set numbers = flat_map (λ number. option_to_list (slice_get set number)) numbers

-- the second name is that of a class that the first one's class is or is below
abbrev pub is_above : List ClassDef → ℕ → Option ℕ → Bool
is_above set low None = false
is_above set low (Some high) = is_subtype set low high

abbrev pub is_among_above : List ClassDef → Option ℕ → Option ℕ → Bool
is_among_above set None high = false
is_among_above set (Some low) high = is_above set low high

abbrev pub is_named_below : List ClassDef → List ℕ → List ℕ → Bool
is_named_below set low high = is_among_above set (find_class set low) (find_class set high)
