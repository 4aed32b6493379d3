-- What fresh objects and the static fields hold, field by field.
use Rattle.std.specs.Prelude.{ℕ, List, [], ◌∷◌, Option, Some, None, flat_map, slice_get, if◌then◌else◌}
use Rattle.class_model.specs.declared.class.FieldDef.{FieldDef}
use Rattle.class_model.specs.declared.class.ClassDef.{ClassDef}
use Rattle.run_state.specs.Words.{Word}
use Rattle.run_state.specs.Unwinding.{default_of}
use Rattle.run_state.specs.SetLooks.{is_static, first_value}

module _ {T : Type 0} (none : T) where
  -- of a field, if it is an object's
  abbrev pub cell_of : FieldDef → List (Word T)
  cell_of field = if is_static field.flags then [] else default_of none field.ty ∷ []

  abbrev pub own_cells : Option ClassDef → List (Word T)
  own_cells None = []
  own_cells (Some class) = flat_map cell_of class.fields

  abbrev pub cells_of : List ClassDef → ℕ → List (Word T)
  cells_of set number = own_cells (slice_get set number)

  -- of a field, if it is static
  abbrev pub static_cell : FieldDef → List (Word T)
  static_cell field = if is_static field.flags then first_value none field.ty field.constant ∷ [] else []

  abbrev pub statics_of : ClassDef → List (Word T)
  statics_of class = flat_map static_cell class.fields
