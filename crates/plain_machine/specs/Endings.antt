-- How a run tells its ending.
use Rattle.std.specs.Prelude.{List}
use Rattle.class_model.specs.declared.class.ClassDef.{ClassDef}
use Rattle.run_state.specs.State as state
use Rattle.run_state.specs.declared.ending.Ending.{Ending}
use Rattle.run_state.specs.declared.ending.Ending.TheVariants as ending
use Rattle.program_links.specs.WorldOf.{name_at}

-- an ending of the definition, where a class is told by its id in the set
abbrev pub ending_shown : List ClassDef → Ending → state.Ending
ending_shown set ending.Running = state.Running
ending_shown set ending.Returned = state.Returned
ending_shown set (ending.Exit status) = state.Exit status
ending_shown set (ending.Uncaught class) = state.Uncaught (name_at set class.0)
ending_shown set (ending.InitFailed class exception) = state.InitFailed (name_at set class.0) (name_at set exception.0)

-- What is told of an ending of the definition. `Stuck`, which a set whose methods verify does not come to, is told as `Running`; this
-- line goes once that is a theorem.
abbrev pub told : state.Ending → state.Ending
told state.Running = state.Running
told state.Returned = state.Returned
told (state.Exit status) = state.Exit status
told (state.Uncaught class) = state.Uncaught class
told (state.InitFailed class exception) = state.InitFailed class exception
told state.Stuck = state.Running
