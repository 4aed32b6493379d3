-- What a command that stopped has left, by the stop.
use Rattle.std.proofs.Common.{◌≡◌, ◌≢◌, ℕ, List, refl}
use Rattle.std.specs.Prelude.{Ok, Err}
use Rattle.outside_io.specs.Files.{Files}
use Rattle.command_parts.specs.declared.stop.Stop.{Stop}
use Rattle.command_parts.specs.declared.stop.Stop.TheVariants.{Usage, InputFault, WriteFault, OutputFault}
use Rattle.phosphor_top.specs.Commands.{Command, Instrument, Check, Run, Spells}
use Rattle.phosphor_top.specs.declared.done.Done.{Done}
use Rattle.phosphor_top.specs.declared.done.Done.TheVariants.{Silent, Ran}
use Rattle.phosphor_top.specs.Streams.{Streams}
use Rattle.phosphor_top.specs.Verdict.{Passes, Refuses, IsVerdict}
use Rattle.phosphor_top.specs.Endings.{Ends, Obeys}

pub verdict_is_no_usage : (stop : Stop) → IsVerdict stop → stop ≢ Usage
verdict_is_no_usage Usage is e = is
verdict_is_no_usage _ is e = cc

-- a command that was stopped is the one that the words spell
pub ended : (words : List (List ℕ)) (old new : Files) (before now : Streams) (stop : Stop) → stop ≢ Usage → Obeys words old new before now (Err stop)
    → (command : Command) × Spells words command × Ends command old new before now (Err stop)
ended words old new before now Usage apart obeys = absurd (apart refl)
ended words old new before now _ apart obeys = obeys

-- a verdict refuses the command, and leaves the folder as it is
pub refused_at : (command : Command) (old new : Files) (before now : Streams) (stop : Stop) → IsVerdict stop → Ends command old new before now (Err stop) → (new ≡ old) × Refuses command old stop
refused_at (Instrument paths) old new before now (WriteFault path) is ends = absurd is
refused_at (Instrument paths) old new before now _ is ends = ends
refused_at (Check dir) old new before now OutputFault is ends = absurd is
refused_at (Check dir) old new before now _ is ends = (ends.kept, ends.answers)
refused_at (Run program) old new before now InputFault is ends = absurd is
refused_at (Run program) old new before now OutputFault is ends = absurd is
refused_at (Run program) old new before now _ is ends = (ends.kept, ends.answers)

-- a command that is done has passed
pub done_passes : (command : Command) (old new : Files) (before now : Streams) (done : Done) → Ends command old new before now (Ok done) → Passes command old
done_passes (Instrument paths) old new before now Silent ends = (ends.instruments.set, ends.instruments.config, record { ready = ends.instruments.ready; built = ends.instruments.made.built })
done_passes (Instrument paths) old new before now (Ran status lines) ends = absurd ends
done_passes (Check dir) old new before now Silent ends = (ends.answers.0, ends.answers.1)
done_passes (Check dir) old new before now (Ran status lines) ends = absurd ends
done_passes (Run program) old new before now Silent ends = absurd ends.answers
done_passes (Run program) old new before now (Ran status lines) ends = (ends.answers.0, ends.answers.1)
