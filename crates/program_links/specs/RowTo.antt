-- Rows of classes and types, in a set and with its tables.
use Rattle.std.specs.Prelude.{◌≡◌, ℕ, ℤ, List, [], Option, Some, map, slice_get, option_map}
use Rattle.class_model.specs.declared.types.BaseType.{BaseType}
use Rattle.class_model.specs.declared.types.BaseType.TheVariants as base
use Rattle.class_model.specs.declared.types.JType.{JType}
use Rattle.class_model.specs.declared.types.FieldRef.{FieldRef}
use Rattle.class_model.specs.declared.types.MethodRef.{MethodRef}
use Rattle.class_model.specs.declared.class.ClassDef.{ClassDef}
use Rattle.set_lookups.specs.Above.{find_class}
use Rattle.set_lookups.specs.Flags.{is_inherited}
use Rattle.set_lookups.specs.Lookups.{declared}
use Rattle.run_state.specs.Texts.{class_type}
use Rattle.run_state.specs.Calls.{narrowed_type}
use Rattle.run_state.specs.References.{is_array, element_type}
use Rattle.run_state.specs.Objects.{receiver_class}
use Rattle.run_state.specs.Unwinding.{default_of, name_of_base}
use Rattle.run_state.specs.SetLooks.{fits_in, super_of, layout, superclasses, initializers, is_initializer, selected_in}
use Rattle.linked_code.specs.declared.program.Selection.{Selection}
use Rattle.linked_code.specs.declared.program.LinkedClass.{LinkedClass}
use Rattle.linked_code.specs.declared.program.LinkedType.{LinkedType}
use Rattle.linked_code.specs.Kept.{kept_by, numbers_of}
use Rattle.linked_code.specs.Linked.{selection}
use Rattle.look_laws.specs.Shown.{first_with}
use Rattle.program_links.specs.declared.keys.Selector.{Selector}
use Rattle.program_links.specs.Numbers.{Numbers}
use Rattle.program_links.specs.Methods.{method_number}
use Rattle.program_links.specs.Picked.{AllPicked}
use Rattle.program_links.specs.WorldOf.{name_at, method_shown, type_shown}

-- ---- classes

-- the number of the type of a class
abbrev pub IsClassType : Numbers → List ClassDef → ℕ → ℕ → Type 0
IsClassType t set number n = slice_get t.types n ≡ Some (class_type (name_at set number))

-- the initializer of a class
abbrev pub StartsWith : List ClassDef → ℕ → Option ℕ → Type 0
StartsWith set number start = option_map (method_number set) (first_with set is_initializer number) ≡ start

-- the methods that a class itself has for the selectors
abbrev pub OwnSelects : List ClassDef → Numbers → ℕ → List Selection → Type 0
OwnSelects set t number own =
    (n : ℕ) (key : Selector) → slice_get t.selectors n ≡ Some key
    → selection own n ≡ option_map (method_number set) (declared set key.name key.desc is_inherited number)

abbrev pub Selecting : List ClassDef → Numbers → List ℕ → List Selection → Type 0
Selecting set t class selects =
    (ref : MethodRef) (n : ℕ) → slice_get t.selectors n ≡ Some (record { name = ref.name; desc = ref.desc })
    → selected_in set class ref ≡ option_map (method_shown set) (selection selects n)

abbrev pub type_of_class : ClassDef → JType
type_of_class class = class_type class.name

abbrev pub type_of_field : FieldRef → JType
type_of_field field = field.ty

pub record ClassTo {T : Type 0} (none : T) (set : List ClassDef) (t : Numbers) (name : List ℕ) (row : LinkedClass T) : Type 0 where
  pub ty : class_type name ≡ type_shown set t row.ty
  pub fits : AllPicked (λ class. fits_in set (class_type name) (type_of_class class)) set row.fits
  pub above : super_of set name ≡ option_map (name_at set) row.above
  pub fresh : map (default_of none) (map type_of_field (layout set name)) ≡ row.fresh
  pub starts : initializers (superclasses set name) ≡ map (method_shown set) row.starts
  pub selects : Selecting set t name row.selects

abbrev pub ClassRow : {T : Type 0} → T → List ClassDef → Numbers → ℕ → LinkedClass T → Type 0
ClassRow none set t number row = ClassTo none set t (name_at set number) row

-- ---- types

-- the class that a type has without its dimensions; a primitive one has none
abbrev pub BaseTo : List ClassDef → BaseType → ℕ → Type 0
BaseTo set (base.Class name) n = find_class set name ≡ Some n
BaseTo set (base.Primitive primitive) n = name_at set n ≡ []

abbrev pub BaseAt : List ClassDef → Numbers → ℕ → ℕ → Type 0
BaseAt set t number n = (ty : JType) → slice_get t.types number ≡ Some ty → BaseTo set ty.base n

pub record TypeTo {T : Type 0} (none : T) (set : List ClassDef) (t : Numbers) (ty : JType) (row : LinkedType T) : Type 0 where
  pub array : is_array ty ≡ row.is_array
  pub numbers : numbers_of ty ≡ row.numbers
  pub element : element_type ty ≡ type_shown set t row.element
  pub narrows : (v : ℤ) → narrowed_type ty v ≡ kept_by row.narrowing v
  pub default : default_of none ty ≡ row.default
  pub receiver : receiver_class ty ≡ name_at set row.receiver
  pub base : name_of_base ty.base ≡ name_at set row.base
  pub fits : AllPicked (fits_in set ty) t.types row.fits

abbrev pub TypeRow : {T : Type 0} → T → List ClassDef → Numbers → ℕ → LinkedType T → Type 0
TypeRow none set t number row = (ty : JType) → slice_get t.types number ≡ Some ty → TypeTo none set t ty row
