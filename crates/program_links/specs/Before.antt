-- What stands in front of the methods and fields of a class.
use Rattle.std.specs.Prelude.{◌≡◌, ◌+◌, ◌<◌, ℕ, List, [], ◌∷◌, Some, length, slice_get}
use Rattle.class_model.specs.declared.class.ClassDef.{ClassDef}
use Rattle.run_state.specs.SetLooks.{instance_fields}
use Rattle.look_laws.specs.Shown.{layout_above, statics_before}
use Rattle.program_links.specs.declared.before.Before.{Before}
use Rattle.program_links.specs.Methods.{methods_before}

pub record IsBefore (set : List ClassDef) (number : ℕ) (class : ClassDef) (b : Before) : Type 0 where
  pub methods : b.methods ≡ methods_before set number
  pub statics : b.statics ≡ length (statics_before set number)
  pub fields : b.fields ≡ length (layout_above set class)

pub record HasBefore (set : List ClassDef) (rows : List Before) (number : ℕ) (class : ClassDef) : Type 0 where
  pub row : Before
  pub at : slice_get rows number ≡ Some row
  pub is : IsBefore set number class row

-- the classes so far have a row each
abbrev pub AreBefore : List ClassDef → List Before → ℕ → Type 0
AreBefore set rows count = (number : ℕ) (class : ClassDef) → number < count → slice_get set number ≡ Some class → HasBefore set rows number class

-- how many fields of an object classes have
abbrev pub field_count : List ClassDef → ℕ
field_count [] = 0
field_count (class ∷ classes) = length (instance_fields class) + field_count classes
