-- The command `run`: its verdict, and what it leaves. This project's own order: the load of the folder that is read; the
-- class whose `main` is run; the run.
use Rattle.std.specs.Prelude.{◌≡◌, ℕ, List, ◌⊎◌, Option, Result, Ok, Err, IfOk, IfErr, IfSome, ⊤}
use Rattle.outside_io.specs.Causes.{Rose}
use Rattle.outside_io.specs.Files.{Files}
use Rattle.class_model.specs.declared.class.ClassDef.{ClassDef}
use Rattle.run_state.specs.declared.ending.Ending.{Ending}
use Rattle.run_state.specs.State.{State}
use Rattle.run_state.specs.Observation.{plain_at, HasMain}
use Rattle.profile_check.specs.declared.profile.Names.TheVariants as names
use Rattle.plain_machine.specs.declared.plain_run.PlainRun.{PlainRun}
use Rattle.plain_machine.specs.Standing.{IsOfSame, IsOpen, StandsAt, StandsWith, state_at}
use Rattle.plain_machine.specs.Endings.{ending_shown, told}
use Rattle.run_console.specs.Runs.{IfTold}
use Rattle.command_parts.specs.Looks.{LookCause}
use Rattle.command_parts.specs.RunLines.{run_lines, run_status}
use Rattle.command_parts.specs.Told.{Took, TookFront}
use Rattle.command_parts.specs.declared.stop.Stop.{Stop}
use Rattle.command_parts.specs.declared.stop.Stop.TheVariants.{InputFault, OutputFault, NoMain, Memory}
use Rattle.phosphor_top.specs.declared.done.Done.{Done}
use Rattle.phosphor_top.specs.declared.done.Done.TheVariants.{Silent, Ran}
use Rattle.phosphor_top.specs.Commands.{Program}
use Rattle.phosphor_top.specs.Streams.{Streams}
use Rattle.phosphor_top.specs.Loading.{LoadsFrom, RefusesLoad}

-- ---- the verdict

-- the class files of the folder load, and the class has a `main` that can be run
pub record Passes (program : Program) (files : Files) (set : List ClassDef) : Type 0 where
  pub loads : LoadsFrom names.Written files program.dir set
  pub main : HasMain set program.main

-- no class of this name has one
abbrev pub RefusesMain : List ClassDef → (main : List ℕ) → Stop → Type 0
RefusesMain set main (NoMain name) = (name ≡ main) × (HasMain set main → ⊥)
RefusesMain set main Memory = ⊤
RefusesMain set main _ = ⊥

-- the first part that fails. A refusal yields to a fault of a device and to want of memory, which may come at any part
abbrev pub Refuses : Program → Files → Stop → Type 0
Refuses program files stop =
    RefusesLoad names.Written files program.dir stop
    ⊎ ((set : List ClassDef) × LoadsFrom names.Written files program.dir set × RefusesMain set program.main stop)

-- ---- what is left

-- the state after so many steps, on this input
abbrev pub state_after : Program → List ClassDef → (input : List ℕ) → State (Unit {0})
state_after program set input = plain_at set program.main input program.steps

-- the run of a set that came to a state: what is left of the input, what standard output got, and the status and lines by the
-- reports and the ending, whose classes are told by their ids
pub record IsRunOf (set : List ClassDef) (s : State (Unit {0})) (left : List ℕ) (before now : Option (List ℕ)) (status : ℕ) (lines : List ℕ) : Type 0 where
  pub taken : left ≡ s.outside.input
  pub console : Took before now s.outside.console
  pub ending : Ending
  pub shown : ending_shown set ending ≡ told s.ending
  pub status_is : status ≡ run_status ending
  pub lines_are : lines ≡ run_lines set s.outside.reports ending

-- the same, with what standard error got
pub record Leaves (set : List ClassDef) (s : State (Unit {0})) (left : List ℕ) (before now e f : Option (List ℕ)) (status : ℕ) : Type 0 where
  pub taken : left ≡ s.outside.input
  pub console : Took before now s.outside.console
  pub ending : Ending
  pub shown : ending_shown set ending ≡ told s.ending
  pub status_is : status ≡ run_status ending
  pub lines : Took e f (run_lines set s.outside.reports ending)

-- ---- the run itself

-- the statuses of the endings of a run
abbrev pub IsEnd : (status : ℕ) → Type 0
IsEnd status = (status ≡ 0) ⊎ (status ≡ 7) ⊎ (status ≡ 8) ⊎ (status ≡ 9)

-- a run that is done has lines
abbrev pub IsRunDone : Done → Type 0
IsRunDone Silent = ⊥
IsRunDone (Ran status lines) = IsEnd status

-- a run at its start: it stands there for every input, and nothing of one is known
pub record IsFresh (run : PlainRun) : Type 0 where
  pub «open» : IsOpen run
  pub stands : (input : List ℕ) → StandsWith run input 0 input

-- from its start a run was made on an input: what it shows is the definition's state, which has just what is left of the input
pub record HasRunTo (old new : PlainRun) (steps : ℕ) (given left : List ℕ) : Type 0 where
  pub same : IsOfSame old new
  pub stands : StandsAt new given steps
  pub taken : left ≡ (state_at old given steps).outside.input

-- standard output has the console, or a front of it
abbrev pub PutsConsole : (before now : Option (List ℕ)) → (console : List ℕ) → Result (Unit {0}) Stop → Type 0
PutsConsole before now console (Ok done) = Took before now console
PutsConsole before now console (Err stop) = TookFront before now console

abbrev pub Puts : (given before now : Option (List ℕ)) → List ClassDef → (main : List ℕ) → (steps : ℕ) → Result (Unit {0}) Stop → Type 0
Puts given before now set main steps result = IfSome given (λ input. PutsConsole before now (plain_at set main input steps).outside.console result)

-- the status and the lines are those of the reports and the ending of a state
abbrev pub IsDoneOf : List ClassDef → State (Unit {0}) → Done → Type 0
IsDoneOf set s Silent = ⊥
IsDoneOf set s (Ran status lines) = (ending : Ending) × (ending_shown set ending ≡ told s.ending) × (status ≡ run_status ending) × (lines ≡ run_lines set s.outside.reports ending)

-- a stop that the run itself gives
abbrev pub IsRunStop : Stop → Type 0
IsRunStop InputFault = ⊤
IsRunStop OutputFault = ⊤
IsRunStop Memory = ⊤
IsRunStop _ = ⊥

-- what a run that was done leaves of the streams, from a state
pub record HasLeft (set : List ClassDef) (s : State (Unit {0})) (left : List ℕ) (before now : Option (List ℕ)) (done : Done) : Type 0 where
  pub taken : left ≡ s.outside.input
  pub console : Took before now s.outside.console
  pub outcome : IsDoneOf set s done

-- so many steps of a class's `main` over the streams
pub record Went (set : List ClassDef) (main : List ℕ) (steps : ℕ) (before now : Streams) (result : Result Done Stop) : Type 0 where
  pub ran : IfOk result (λ done. IfTold before.input now.input (λ given left. HasLeft set (plain_at set main given steps) left before.output now.output done))
  pub stops : IfErr result IsRunStop
  pub front : IfSome before.input (λ given. TookFront before.output now.output (plain_at set main given steps).outside.console)

-- the run of a set: it was made, or the class has no `main` and nothing was written
abbrev pub RanSet : List ClassDef → Program → (before now : Streams) → Result Done Stop → Type 0
RanSet set program before now (Ok done) = HasMain set program.main × Went set program.main program.steps before now (Ok done)
RanSet set program before now (Err stop) =
    (HasMain set program.main × Went set program.main program.steps before now (Err stop))
    ⊎ (RefusesMain set program.main stop × (now.output ≡ before.output))

abbrev pub Answers : Program → Files → (before now : Streams) → Result Done Stop → Type 0
Answers program files before now (Ok Silent) = ⊥
Answers program files before now (Ok (Ran status lines)) =
    (set : List ClassDef) × Passes program files set
    × IfTold before.input now.input (λ given left. IsRunOf set (state_after program set given) left before.output now.output status lines)
Answers program files before now (Err InputFault) = (set : List ClassDef) × Passes program files set
Answers program files before now (Err OutputFault) = (set : List ClassDef) × Passes program files set
Answers program files before now (Err stop) = Refuses program files stop

-- whatever comes of a folder whose verdict passes, standard output has a front of the console, and nothing else
abbrev pub HasFront : Program → Files → (before now : Streams) → Type 0
HasFront program files before now = (set : List ClassDef) → Passes program files set
    → IfSome before.input (λ given. TookFront before.output now.output (state_after program set given).outside.console)

-- the folder is as before
pub record Ends (program : Program) (old new : Files) (before now : Streams) (outcome : Result Done Stop) : Type 0 where
  pub kept : new ≡ old
  pub answers : Answers program old before now outcome
  pub front : HasFront program old before now

-- a fault comes only where the count of its device rose: failed reads of the folder from r to s, of standard input from t to
-- u, failed writes of standard output from v to w
abbrev pub Causes : Stop → (r s t u v w : ℕ) → Type 0
Causes InputFault r s t u v w = Rose t u
Causes OutputFault r s t u v w = Rose v w
Causes stop r s t u v w = LookCause stop r s
