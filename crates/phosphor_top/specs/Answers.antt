-- What a status of the top call says, for words, the files of the folder, and the streams. This project's own rules.
use Rattle.std.specs.Prelude.{◌≡◌, ℕ, ◌≤◌, List, [], ◌⊎◌, Option, Result, Ok, Err}
use Rattle.outside_io.specs.Causes.{Rose}
use Rattle.outside_io.specs.Files.{Files}
use Rattle.run_console.specs.Runs.{IfTold}
use Rattle.command_parts.specs.Lines.{ok_line, write_fault_line}
use Rattle.command_parts.specs.Stops.{status_of, line_of}
use Rattle.command_parts.specs.Told.{Told, Took, TookFront}
use Rattle.command_parts.specs.declared.stop.Stop.{Stop}
use Rattle.class_model.specs.declared.class.ClassDef.{ClassDef}
use Rattle.phosphor_top.specs.declared.done.Done.{Done}
use Rattle.phosphor_top.specs.declared.done.Done.TheVariants.{Silent, Ran}
use Rattle.phosphor_top.specs.Commands.{Command, Instrument, Check, Run, Paths, Program, Spells, SpellsInstrument, SpellsCheck, SpellsRun}
use Rattle.phosphor_top.specs.Streams.{Streams}
use Rattle.phosphor_top.specs.Verdict.{Passes, Refuses, IsVerdict}
use Rattle.phosphor_top.specs.Endings.{Faults}
use Rattle.phosphor_top.specs.Run.{IsEnd}
use Rattle.phosphor_top.specs.Instrument.{Writes, StopsWriting}
use Rattle.phosphor_top.specs.Check as check
use Rattle.phosphor_top.specs.Run as run

-- the status and the lines of an outcome; r and s are the counts of faults of standard error before and after
abbrev pub Tells : Result Done Stop → (old new : Option (List ℕ)) → (r s status : ℕ) → Type 0
Tells (Ok Silent) old new r s status = (status ≡ 0) × Took old new [] × (s ≡ r)
Tells (Ok (Ran end lines)) old new r s status = (r ≤ s) × (((status ≡ end) × Took old new lines) ⊎ ((status ≡ 4) × Rose r s))
Tells (Err stop) old new r s status = Told stop old new r s status

abbrev pub IsRefusal : (status : ℕ) → Type 0
IsRefusal status = (status ≡ 2) ⊎ (status ≡ 10)

-- a device failed or memory ran out, to which a refusal yields
abbrev pub Yields : (status : ℕ) → Type 0
Yields status = (status ≡ 3) ⊎ (status ≡ 4) ⊎ (status ≡ 5)

-- ---- refusals

-- the verdict on the command that the words spell refuses it with this status, and standard error has its line
pub record IsRefused (words : List (List ℕ)) (files : Files) (old new : Option (List ℕ)) (status : ℕ) : Type 0 where
  pub command : Command
  pub spells : Spells words command
  pub stop : Stop
  pub verdict : IsVerdict stop
  pub refuses : Refuses command files stop
  pub status_is : status ≡ status_of stop
  pub line : Took old new (line_of stop)

-- where the verdict refuses a command, its status and line come
abbrev pub IsDue : List (List ℕ) → Files → (old new : Option (List ℕ)) → (status : ℕ) → Type 0
IsDue words files old new status = (command : Command) (stop : Stop) → Spells words command → IsVerdict stop → Refuses command files stop
    → ((status ≡ status_of stop) × Took old new (line_of stop)) ⊎ Yields status

-- the verdict refuses a command that the words spell
abbrev pub IsBarred : List (List ℕ) → Files → Type 0
IsBarred words files = (command : Command) × Spells words command × (stop : Stop) × IsVerdict stop × Refuses command files stop

-- ---- completeness

-- a device that a command works with failed; r and s are the counts of faults of standard error before and after
abbrev pub HasFailed : Command → (before now : Faults) → (r s : ℕ) → Type 0
HasFailed (Instrument paths) before now r s = Rose before.reads now.reads ⊎ Rose before.writes now.writes ⊎ Rose r s
HasFailed (Check dir) before now r s = Rose before.reads now.reads ⊎ Rose before.out now.out ⊎ Rose r s
HasFailed (Run program) before now r s = Rose before.reads now.reads ⊎ Rose before.input now.input ⊎ Rose before.out now.out ⊎ Rose r s

-- the statuses of a command that is done
abbrev pub IsDone : Command → (status : ℕ) → Type 0
IsDone (Instrument paths) status = status ≡ 0
IsDone (Check dir) status = status ≡ 0
IsDone (Run program) status = IsEnd status

-- where the verdict passes and no device failed that the command works with, it is done, or the status is 5
abbrev pub IsComplete : List (List ℕ) → Files → (before now : Faults) → (r s status : ℕ) → Type 0
IsComplete words files before now r s status = (command : Command) → Spells words command → Passes command files
    → (HasFailed command before now r s → ⊥) → IsDone command status ⊎ (status ≡ 5)

-- ---- what is done

-- 'instrument, whole'
abbrev pub IsWhole : List (List ℕ) → (old new : Files) → Type 0
IsWhole words old new = (paths : Paths) → SpellsInstrument words paths → Writes paths old new

-- the folder is as before, and standard output has the number of its class files, which load
pub record Checked (dir : List ℕ) (old new : Files) (before now : Option (List ℕ)) : Type 0 where
  pub kept : new ≡ old
  pub count : ℕ
  pub passes : check.Passes dir old count
  pub line : Took before now (ok_line count)

-- 'check, whole'
abbrev pub IsChecked : List (List ℕ) → (before now : Option (List ℕ)) → (old new : Files) → Type 0
IsChecked words before now old new = (dir : List ℕ) → SpellsCheck words dir → Checked dir old new before now

-- whatever comes of a folder whose class files load, standard output has a front of the line of their number, and nothing else
abbrev pub HasFront : List (List ℕ) → Files → (before now : Option (List ℕ)) → Type 0
HasFront words files before now = (dir : List ℕ) (count : ℕ) → SpellsCheck words dir → check.Passes dir files count → TookFront before now (ok_line count)

-- the folder is as before; the class files load, the class has a `main`, and the streams got what its run gives: standard
-- output just the console, standard error just the lines, and what is left of standard input is what the run left of it
pub record HasRun (program : Program) (old new : Files) (before now : Streams) (e f : Option (List ℕ)) (status : ℕ) : Type 0 where
  pub kept : new ≡ old
  pub set : List ClassDef
  pub passes : run.Passes program old set
  pub ran : IfTold before.input now.input (λ given left. run.Leaves set (run.state_after program set given) left before.output now.output e f status)

-- 'run, whole'
abbrev pub IsRunWhole : List (List ℕ) → (before now : Streams) → (e f : Option (List ℕ)) → (status : ℕ) → (old new : Files) → Type 0
IsRunWhole words before now e f status old new = (program : Program) → SpellsRun words program → HasRun program old new before now e f status

-- whatever comes of a folder whose class files load, and of a class that has a `main`, standard output has a front of the
-- console, and nothing else
abbrev pub HasConsole : List (List ℕ) → Files → (before now : Streams) → Type 0
HasConsole words files before now = (program : Program) → SpellsRun words program → run.HasFront program files before now

-- what a stopped write leaves, with the line of the file that failed, where standard error took it; r and s are the
-- counts of faults of standard error before and after
abbrev pub IsStopped : List (List ℕ) → (e f : Option (List ℕ)) → (r s : ℕ) → (old new : Files) → Type 0
IsStopped words e f r s old new =
    (new ≡ old)
    ⊎ ((paths : Paths) × SpellsInstrument words paths × (path : List ℕ) × StopsWriting paths old new path × (Rose r s ⊎ Took e f (write_fault_line path)))
