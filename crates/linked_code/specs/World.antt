-- What the numbers of a program stand for.
use Rattle.std.specs.Prelude.{ℕ, List}
use Rattle.class_model.specs.declared.types.JType.{JType}
use Rattle.run_state.specs.declared.report.Report.{Report}
use Rattle.run_state.specs.State.{Method}
use Rattle.run_state.specs.Looks.{Looks}
use Rattle.run_state.specs.Tags.{Tags}

-- The rest of the tags' rules and the look-ups, which the definitions of the machine take; and for each number its method, its
-- class's name, its type and its text.
pub record World (T : Type 0) : Type 0 where
  pub marked : Method → T → T
  pub entered : Method → List T → List Report
  pub looks : Looks
  pub method : ℕ → Method
  pub class : ℕ → List ℕ
  pub ty : ℕ → JType
  pub text : ℕ → List ℕ

abbrev pub tags_of : {T : Type 0} → T → (T → T → T) → World T → Tags T
tags_of none join w = record { none = none; join = join; marked = w.marked; entered = w.entered }
