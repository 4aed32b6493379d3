-- A field that a reference finds, with its class.
use Rattle.std.specs.Prelude.{◌≡◌, ℕ, Bool, List, Some, slice_get}
use Rattle.class_model.specs.declared.types.FieldRef.{FieldRef}
use Rattle.class_model.specs.declared.class.FieldDef.{FieldDef}
use Rattle.class_model.specs.declared.class.ClassDef.{ClassDef}
use Rattle.set_lookups.specs.Lookups.{member_of, resolve_field}
use Rattle.run_state.specs.SetLooks.{is_static}

pub record IsFound (set : List ClassDef) (ref : FieldRef) (static : Bool) (number index : ℕ) (class : ClassDef) (field : FieldDef) : Type 0 where
  pub resolves : resolve_field set ref ≡ Some (member_of number index)
  pub there : slice_get set number ≡ Some class
  pub at : slice_get class.fields index ≡ Some field
  pub kind : is_static field.flags ≡ static
