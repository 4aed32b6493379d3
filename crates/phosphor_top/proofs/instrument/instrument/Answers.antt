use Rattle.phosphor_top.specs.Words.{paths_of}
use Rattle.phosphor_top.proofs.InstrumentParts.{ends_written}
use Rattle.phosphor_top.proofs.instrument.instrument.Goals as goal

pub returns-clause-ends : goal.returns-clause-ends
returns-clause-ends g c =
    ends_written (g.F.Folder.files c.args.folder.now) (g.F.Folder.files c.prepare.new.folder) (g.F.Folder.files c.write_files.new.folder) (paths_of c.args.words)
    c.in_ok-files.files.items c.write_files.result c.in_ok-files.ensures.looked.kept c.in_ok-files.ensures.gives c.write_files.ensures.writes
