-- The verdict on a command is one.
use Rattle.std.proofs.Common.{◌≡◌, ◌∙◌, ℕ, List, length, sym, ap}
use Rattle.outside_io.specs.Files.{Files}
use Rattle.profile_check.specs.declared.profile.Names.TheVariants as names
use Rattle.set_loader.specs.declared.file.File.{File}
use Rattle.command_parts.specs.declared.stop.Stop.{Stop}
use Rattle.phosphor_top.specs.Commands.{Command, Instrument, Check, Run}
use Rattle.phosphor_top.specs.Verdict.{Refuses, Passes, IsVerdict}
use Rattle.phosphor_top.specs.Check as check
use Rattle.phosphor_top.proofs.FolderOnce.{one_list}
use Rattle.phosphor_top.proofs.LoadOnce.{load_or_not, load_once}
use Rattle.phosphor_top.proofs.InstrumentOnce as instrument
use Rattle.phosphor_top.proofs.RunOnce as run

-- a command that passes is not refused
pub passes_or_refused : (command : Command) (files : Files) (stop : Stop) → IsVerdict stop → Passes command files → Refuses command files stop → ⊥
passes_or_refused (Instrument paths) files stop is passes refuses = instrument.passes_or_refused paths files passes.0 passes.1 stop is passes.2 refuses
passes_or_refused (Check dir) files stop is passes refuses = load_or_not names.Written files dir passes.1.set stop is passes.1.loads refuses
passes_or_refused (Run program) files stop is passes refuses = run.passes_or_refused program files passes.0 stop is passes.1 refuses

-- a command is refused once
pub refused_by_one : (command : Command) (files : Files) (stop other : Stop) → IsVerdict stop → IsVerdict other → Refuses command files stop → Refuses command files other → stop ≡ other
refused_by_one (Instrument paths) files stop other is also a b = instrument.refused_by_one paths files stop other is also a b
refused_by_one (Check dir) files stop other is also a b = load_once names.Written files dir stop other is also a b
refused_by_one (Run program) files stop other is also a b = run.refused_by_one program files stop other is also a b

-- a folder has one number of class files
pub one_count : (dir : List ℕ) (files : Files) (m n : ℕ) → check.Passes dir files m → check.Passes dir files n → m ≡ n
one_count dir files m n a b =
    let same : a.loads.list ≡ b.loads.list = one_list files dir a.loads.list b.loads.list a.loads.read b.loads.read in
    a.counted ∙ ap (λ (list : List File). length list) same ∙ sym b.counted
