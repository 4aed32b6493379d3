-- What words leave: this project's own rules.
use Rattle.std.specs.Prelude.{◌≡◌, ℕ, List, ◌⊎◌, Option, Some, None, Result, Ok, Err, ⊤}
use Rattle.outside_io.specs.Causes.{Rose}
use Rattle.outside_io.specs.Files.{Files}
use Rattle.command_parts.specs.Stops.{HasCause}
use Rattle.command_parts.specs.declared.stop.Stop.{Stop}
use Rattle.command_parts.specs.declared.stop.Stop.TheVariants.{Usage, InputFault, WriteFault, OutputFault}
use Rattle.phosphor_top.specs.declared.done.Done.{Done}
use Rattle.phosphor_top.specs.declared.done.Done.TheVariants.{Silent, Ran}
use Rattle.phosphor_top.specs.Commands.{Command, Instrument, Check, Run, Spells, IsNoCommand, IsInstrument, IsCheck, IsRun}
use Rattle.phosphor_top.specs.Streams.{Streams}
use Rattle.phosphor_top.specs.Instrument as instrument
use Rattle.phosphor_top.specs.Check as check
use Rattle.phosphor_top.specs.Run as run

-- what is said of a folder before and after, where it tells its files
abbrev pub IfTold : Option Files → Option Files → (Files → Files → Type 0) → Type 0
IfTold None new P = ⊤
IfTold (Some old) None P = ⊥
IfTold (Some old) (Some new) P = P old new

-- an outcome that has nothing for standard error but the line of a stop
abbrev pub IsSilent : (Result (Unit {0}) Stop → Type 0) → Result Done Stop → Type 0
IsSilent P (Ok Silent) = P (Ok tt)
IsSilent P (Ok (Ran status lines)) = ⊥
IsSilent P (Err stop) = P (Err stop)

-- what a command leaves of the folder, `old` and then `new`, and of the streams, `before` and then `now`
abbrev pub Ends : Command → (old new : Files) → (before now : Streams) → Result Done Stop → Type 0
Ends (Instrument paths) old new before now outcome = IsSilent (instrument.Ends paths old new) outcome
Ends (Check dir) old new before now outcome = IsSilent (check.Ends dir old new before.output now.output) outcome
Ends (Run program) old new before now outcome = run.Ends program old new before now outcome

-- the status of a run that is done is that of an ending
abbrev pub IsRunEnd : Done → Type 0
IsRunEnd Silent = ⊤
IsRunEnd (Ran status lines) = run.IsEnd status

-- lines of a run come of a run alone
abbrev pub OnlyRun : List (List ℕ) → Done → Type 0
OnlyRun words Silent = IsRun words → ⊥
OnlyRun words (Ran status lines) = IsRun words

-- the outcome of a command that has nothing for standard error where it is done
abbrev pub silent_outcome : Result (Unit {0}) Stop → Result Done Stop
silent_outcome (Ok done) = Ok Silent
silent_outcome (Err stop) = Err stop

-- what words leave: no command is spelled, or the command that is spelled ends
abbrev pub Obeys : List (List ℕ) → (old new : Files) → (before now : Streams) → Result Done Stop → Type 0
Obeys words old new before now (Err Usage) = (new ≡ old) × IsNoCommand words
Obeys words old new before now outcome = (command : Command) × Spells words command × Ends command old new before now outcome

-- the counts of faults of the devices that a command works with: failed reads and writes of the folder, failed reads of
-- standard input, failed writes of standard output
pub record Faults : Type 0 where
  pub reads : ℕ
  pub writes : ℕ
  pub input : ℕ
  pub out : ℕ

-- words are no command only where they spell none; a fault comes only of a command that works with the device, and only
-- where the count of that device rose
abbrev pub Causes : List (List ℕ) → (before now : Faults) → Stop → Type 0
Causes words before now Usage = IsNoCommand words
Causes words before now InputFault = IsRun words × Rose before.input now.input
Causes words before now (WriteFault path) = IsInstrument words × Rose before.writes now.writes
Causes words before now OutputFault = (IsCheck words ⊎ IsRun words) × Rose before.out now.out
Causes words before now stop = HasCause stop before.reads now.reads before.writes now.writes
