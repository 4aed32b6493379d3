-- The number by which the constant pool of a written class is bounded. It is this project's own, with each of its letters.
use Rattle.std.specs.Prelude.{ℕ, ◌+◌, ◌*◌, ◌&&◌, Bool, true, false, List, [], ◌∷◌, ◌++◌, length, fold, sum_by, count_by, Option, Some, None, if◌then◌else◌}
use Rattle.std.specs.List.{list_any}
use Rattle.std.specs.Ordering.{int_eq}
use Rattle.class_model.specs.declared.types.JType.{JType}
use Rattle.class_model.specs.declared.types.MethodDesc.{MethodDesc}
use Rattle.class_model.specs.declared.class.FieldDef.{FieldDef}
use Rattle.class_model.specs.declared.class.MethodDef.{MethodDef}
use Rattle.class_model.specs.declared.class.ClassDef.{ClassDef}
use Rattle.class_model.specs.Descriptor.{field_descriptor, method_descriptor}
use Rattle.class_limits.specs.Texts.{class_name_of}
use Rattle.class_limits.specs.Limits.{told}
use Rattle.run_state.specs.declared.config.Config.{Config}
use Rattle.profile_check.specs.Names.{same_name}
use Rattle.size_limits.specs.declared.key.Key.{Key}
use Rattle.size_limits.specs.declared.key.Key.TheVariants as keys
use Rattle.size_limits.specs.Items.{Item, IntItem, LongItem, TextItem, ClassItem, FieldItem, MethodItem, class_items}

-- ---- the different things that a class names

-- how a thing stands in the pool, with texts for classes and descriptors: two things are the same where these are equal
abbrev pub key_of : Item → Key
key_of (IntItem n) = keys.Int n
key_of (LongItem n) = keys.Long n
key_of (TextItem text) = keys.Text text
key_of (ClassItem ty) = keys.Class (class_name_of ty)
key_of (FieldItem field) = keys.Field field.class field.name (field_descriptor field.ty)
key_of (MethodItem method) = keys.Method (class_name_of method.class) method.name (method_descriptor method.desc) method.in_interface

abbrev pub same_flag : Bool → Bool → Bool
same_flag true other = other
same_flag false true = false
same_flag false false = true

unfoldable pub same_key : Key → Key → Bool
same_key (keys.Int n) (keys.Int m) = int_eq n m
same_key (keys.Long n) (keys.Long m) = int_eq n m
same_key (keys.Text text) (keys.Text other) = same_name text other
same_key (keys.Class name) (keys.Class other) = same_name name other
same_key (keys.Field class name desc) (keys.Field class' name' desc') = same_name class class' && same_name name name' && same_name desc desc'
same_key (keys.Method class name desc flag) (keys.Method class' name' desc' flag') =
    same_name class class' && same_name name name' && same_name desc desc' && same_flag flag flag'
same_key _ _ = false

-- a thing more, where none stands there that is the same
abbrev pub added : List Item → Item → List Item
added items item = if list_any (λ other. same_key (key_of item) (key_of other)) items then items else items ++ item ∷ []

-- the different things of a list
unfoldable pub different : List Item → List Item
different items = fold added [] items

-- ---- the letters

-- a type is counted once, and once more for each dimension
abbrev pub type_count : JType → ℕ
type_count ty = ty.depth + 1

abbrev pub result_count : Option JType → ℕ
result_count None = 0
result_count (Some ty) = type_count ty

abbrev pub desc_count : MethodDesc → ℕ
desc_count desc = sum_by type_count desc.params + result_count desc.result

abbrev pub members_in : Item → ℕ
members_in (FieldItem field) = 1
members_in (MethodItem method) = 1
members_in _ = 0

-- m: the different members that instructions name
abbrev pub members_letter : ClassDef → ℕ
members_letter class = sum_by members_in (different (class_items class))

abbrev pub names_in : Item → ℕ
names_in (IntItem n) = 1
names_in (LongItem n) = 1
names_in (TextItem text) = 1
names_in (ClassItem ty) = type_count ty
names_in _ = 0

-- n: the different numbers, literals and classes that the class names
abbrev pub names_letter : ClassDef → ℕ
names_letter class = sum_by names_in (different (class_items class))

abbrev pub types_in : Item → ℕ
types_in (FieldItem field) = type_count field.ty
types_in (MethodItem method) = desc_count method.desc
types_in _ = 0

abbrev pub field_types : FieldDef → ℕ
field_types field = type_count field.ty

abbrev pub method_types : MethodDef → ℕ
method_types method = desc_count method.desc

-- t: the types in the descriptors of fields, of methods, and of the different members that instructions name
abbrev pub types_letter : ClassDef → ℕ
types_letter class = sum_by field_types class.fields + sum_by method_types class.methods + sum_by types_in (different (class_items class))

-- i: the rows of InnerClasses
abbrev pub rows_letter : ClassDef → ℕ
rows_letter class = length class.inner

abbrev pub throws_in : MethodDef → ℕ
throws_in method = length method.throws

-- e: the names in Exceptions
abbrev pub throws_letter : ClassDef → ℕ
throws_letter class = sum_by throws_in class.methods

-- k: the listed sources and sinks
abbrev pub listed_letter : Config → ClassDef → ℕ
listed_letter config class =
    count_by (λ source. same_name source.class class.name) config.sources + count_by (λ sink. same_name sink.class class.name) config.sinks

-- ---- the number

unfoldable pub pool_number : Config → ClassDef → ℕ
pool_number config class =
    600 + 12 * members_letter class + 4 * names_letter class + 20 * (length class.fields + length class.methods)
    + 4 * types_letter class + 6 * rows_letter class + 2 * throws_letter class + 4 * listed_letter config class

-- what the declarations of the class add to it, and a fixed number
abbrev pub declared_worth : Config → ClassDef → ℕ
declared_worth config class =
    600 + 20 * (length class.fields + length class.methods) + 4 * (sum_by field_types class.fields + sum_by method_types class.methods)
    + 6 * rows_letter class + 2 * throws_letter class + 4 * listed_letter config class

-- ---- counting in one pass

-- the keys of the things so far, and what they add to the number
pub record Counted : Type 0 where
  pub keys : List Key
  pub worth : ℕ

abbrev pub worth_of : Item → ℕ
worth_of item = 12 * members_in item + 4 * names_in item + 4 * types_in item

-- a key more, and what it adds where it is new
abbrev pub noted_key : Counted → Key → ℕ → Counted
noted_key counted key worth =
    if list_any (same_key key) counted.keys then counted else record { keys = counted.keys ++ key ∷ []; worth = told (counted.worth + worth) }

-- a thing more
abbrev pub noted : Counted → Item → Counted
noted counted item = noted_key counted (key_of item) (told (worth_of item))

abbrev pub nothing_counted : Counted
nothing_counted = record { keys = []; worth = 0 }

unfoldable pub all_noted : Counted → List Item → Counted
all_noted counted items = fold noted counted items
