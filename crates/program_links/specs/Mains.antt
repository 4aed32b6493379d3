-- The class whose `main` is run.
use Rattle.std.specs.Prelude.{◌≡◌, ◌<◌, ℕ, List, length}
use Rattle.class_model.specs.declared.class.ClassDef.{ClassDef}
use Rattle.set_lookups.specs.declared.ids.ClassId.{ClassId}
use Rattle.run_state.specs.Observation.{HasMain}
use Rattle.program_links.specs.WorldOf.{name_at}

-- a class of the set has this name, and a `main` that can be run
pub record IsMainOf (set : List ClassDef) (name : List ℕ) (class : ClassId) : Type 0 where
  pub there : class.0 < length set
  pub named : name_at set class.0 ≡ name
  pub has : HasMain set name
