-- The verdict on a command: the first of its parts that fails, with the stop that tells it, or that each part passes.
-- This project's own.
use Rattle.std.specs.Prelude.{ℕ, List, ⊤}
use Rattle.outside_io.specs.Files.{Files}
use Rattle.class_model.specs.declared.class.ClassDef.{ClassDef}
use Rattle.run_state.specs.declared.config.Config.{Config}
use Rattle.command_parts.specs.declared.stop.Stop.{Stop}
use Rattle.command_parts.specs.declared.stop.Stop.TheVariants.{TooManyFiles, FileTooLong, NotLoaded, ConfigNotBuilt, NoFile, NoMain, NotEmpty, NotBuilt}
use Rattle.phosphor_top.specs.Commands.{Command, Instrument, Check, Run}
use Rattle.phosphor_top.specs.Instrument as instrument
use Rattle.phosphor_top.specs.Check as check
use Rattle.phosphor_top.specs.Run as run

-- a command ends before its work is done, at the first part that fails. A refusal yields to a fault of a device and to
-- want of memory
abbrev pub Refuses : Command → Files → Stop → Type 0
Refuses (Instrument paths) files stop = instrument.Refuses paths files stop
Refuses (Check dir) files stop = check.Refuses dir files stop
Refuses (Run program) files stop = run.Refuses program files stop

-- each part of a command passes
abbrev pub Passes : Command → Files → Type 0
Passes (Instrument paths) files = (set : List ClassDef) × (config : Config) × instrument.Passes paths files set config
Passes (Check dir) files = (count : ℕ) × check.Passes dir files count
Passes (Run program) files = (set : List ClassDef) × run.Passes program files set

-- a stop that is a verdict: no fault of a device, no want of memory, and not that there is no command
abbrev pub IsVerdict : Stop → Type 0
IsVerdict (TooManyFiles dir) = ⊤
IsVerdict (FileTooLong path) = ⊤
IsVerdict (NotLoaded line) = ⊤
IsVerdict ConfigNotBuilt = ⊤
IsVerdict (NoFile path) = ⊤
IsVerdict (NoMain main) = ⊤
IsVerdict (NotEmpty dir) = ⊤
IsVerdict (NotBuilt class) = ⊤
IsVerdict _ = ⊥
