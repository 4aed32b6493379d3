use Rattle.std.proofs.Common.{◌≡◌, refl}
use Rattle.phosphor_top.specs.Words.{program_of}
use Rattle.phosphor_top.proofs.RunParts as parts
use Rattle.phosphor_top.proofs.run.run.Goals as goal

pub returns-in_err-set-clause-ends : goal.returns-in_err-set-clause-ends
returns-in_err-set-clause-ends g c =
    parts.refused (g.F.Folder.files c.args.folder.now) (g.F.Folder.files c.load_folder.new.folder) (program_of c.args.words)
    (record { input = g.I.ByteSource.left c.args.input.now; output = g.O.ByteSink.held c.args.out.now }) (record { input = g.I.ByteSource.left c.args.input.now; output = g.O.ByteSink.held c.args.out.now })
    c.in_err-set.field-0.0 c.from_residual.result c.load_folder.ensures.looked.kept c.in_err-set.ensures.gives refl c.from_residual.ensures.1

pub returns-clause-ends : goal.returns-clause-ends
returns-clause-ends g c =
    parts.loaded (g.F.Folder.files c.args.folder.now) (g.F.Folder.files c.load_folder.new.folder) (program_of c.args.words) c.in_ok-set.set
    (record { input = g.I.ByteSource.left c.args.input.now; output = g.O.ByteSink.held c.args.out.now }) (record { input = g.I.ByteSource.left c.run_set.new.input; output = g.O.ByteSink.held c.run_set.new.out })
    c.run_set.result c.load_folder.ensures.looked.kept c.in_ok-set.ensures.gives c.run_set.ensures.end c.run_set.ensures.ran

pub returns-clause-barred : goal.returns-clause-barred
returns-clause-barred g c =
    parts.barred (c.run_set.new.out ≡ c.args.out.now) (g.F.Folder.files c.args.folder.now) (program_of c.args.words) c.in_ok-set.set c.in_ok-set.ensures.gives c.run_set.ensures.barred
