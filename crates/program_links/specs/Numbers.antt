-- The tables of a program that its code leads to, while they grow.
use Rattle.std.specs.Prelude.{◌≡◌, ◌⊎◌, ℕ, List, Some, slice_get}
use Rattle.class_model.specs.declared.types.JType.{JType}
use Rattle.run_state.specs.References.{element_type}
use Rattle.linked_code.specs.declared.program.Call.{Call}
use Rattle.linked_code.specs.declared.program.Table.{Table}
use Rattle.linked_code.specs.declared.program.Rows.{Rows}
use Rattle.program_links.specs.declared.keys.Selector.{Selector}

-- the types, texts and selectors that were met, and the calls and switches
pub record Numbers : Type 0 where
  pub types : List JType
  pub texts : List (List ℕ)
  pub selectors : List Selector
  pub calls : List Call
  pub tables : List Table
  pub rows : List Rows

-- what has a number keeps it
abbrev pub Keeps : {A : Type 0} → List A → List A → Type 0
Keeps {A} old new = (k : ℕ) (x : A) → slice_get old k ≡ Some x → slice_get new k ≡ Some x

pub record Grows (old new : Numbers) : Type 0 where
  pub types : Keeps old.types new.types
  pub texts : Keeps old.texts new.texts
  pub selectors : Keeps old.selectors new.selectors
  pub calls : Keeps old.calls new.calls
  pub tables : Keeps old.tables new.tables
  pub rows : Keeps old.rows new.rows

-- the type of the elements of each type is there
abbrev pub HasElement : List JType → JType → Type 0
HasElement types ty = (m : ℕ) × (slice_get types m ≡ Some (element_type ty))

abbrev pub AreElements : List JType → Type 0
AreElements types = (n : ℕ) (ty : JType) → slice_get types n ≡ Some ty → HasElement types ty

-- of a type that is no array it is the type itself
abbrev pub HasElementOrSelf : List JType → JType → Type 0
HasElementOrSelf types ty = (ty.depth ≡ 0) ⊎ HasElement types ty
