use Rattle.std.proofs.Common.{◌≡◌, map, string_bytes}
use Rattle.phosphor_top.specs.Commands.{IsRun}
use Rattle.phosphor_top.proofs.Refusals as refusals
use Rattle.phosphor_top.proofs.Faults as faults
use Rattle.phosphor_top.proofs.Left as left
use Rattle.phosphor_top.proofs.Written as written
use Rattle.phosphor_top.proofs.top.phosphor.Goals as goal

pub returns-clause-statuses : goal.returns-clause-statuses
returns-clause-statuses g c =
    faults.named_status c.obey-outcome.result (g.E.ByteSink.held c.args.err.now) (g.E.ByteSink.held c.answer.new.err) (g.E.ByteSink.faults c.args.err.now) (g.E.ByteSink.faults c.answer.new.err) c.answer.result c.obey-outcome.ensures.end c.answer.ensures

pub returns-clause-whole : goal.returns-clause-whole
returns-clause-whole g c =
    left.whole (map string_bytes c.args.words.now) (g.F.Folder.files c.args.folder.now) (g.F.Folder.files c.obey-outcome.new.folder)
    (record { input = g.I.ByteSource.left c.args.input.now; output = g.O.ByteSink.held c.args.out.now })
    (record { input = g.I.ByteSource.left c.obey-outcome.new.input; output = g.O.ByteSink.held c.obey-outcome.new.out })
    c.obey-outcome.result (g.E.ByteSink.held c.args.err.now) (g.E.ByteSink.held c.answer.new.err) (g.E.ByteSink.faults c.args.err.now) (g.E.ByteSink.faults c.answer.new.err) c.answer.result c.obey-outcome.ensures.obeys c.answer.ensures

pub returns-clause-checked : goal.returns-clause-checked
returns-clause-checked g c =
    left.checked (map string_bytes c.args.words.now) (g.F.Folder.files c.args.folder.now) (g.F.Folder.files c.obey-outcome.new.folder)
    (record { input = g.I.ByteSource.left c.args.input.now; output = g.O.ByteSink.held c.args.out.now })
    (record { input = g.I.ByteSource.left c.obey-outcome.new.input; output = g.O.ByteSink.held c.obey-outcome.new.out })
    c.obey-outcome.result (g.E.ByteSink.held c.args.err.now) (g.E.ByteSink.held c.answer.new.err) (g.E.ByteSink.faults c.args.err.now) (g.E.ByteSink.faults c.answer.new.err) c.answer.result c.obey-outcome.ensures.obeys c.answer.ensures

pub returns-clause-ran : goal.returns-clause-ran
returns-clause-ran g c =
    left.ran (map string_bytes c.args.words.now) (g.F.Folder.files c.args.folder.now) (g.F.Folder.files c.obey-outcome.new.folder)
    (record { input = g.I.ByteSource.left c.args.input.now; output = g.O.ByteSink.held c.args.out.now })
    (record { input = g.I.ByteSource.left c.obey-outcome.new.input; output = g.O.ByteSink.held c.obey-outcome.new.out })
    c.obey-outcome.result (g.E.ByteSink.held c.args.err.now) (g.E.ByteSink.held c.answer.new.err) (g.E.ByteSink.faults c.args.err.now) (g.E.ByteSink.faults c.answer.new.err) c.answer.result c.obey-outcome.ensures.obeys c.answer.ensures

pub returns-clause-refused : goal.returns-clause-refused
returns-clause-refused g c =
    refusals.refused (map string_bytes c.args.words.now) (g.F.Folder.files c.args.folder.now) (g.F.Folder.files c.obey-outcome.new.folder)
    (record { input = g.I.ByteSource.left c.args.input.now; output = g.O.ByteSink.held c.args.out.now })
    (record { input = g.I.ByteSource.left c.obey-outcome.new.input; output = g.O.ByteSink.held c.obey-outcome.new.out })
    c.obey-outcome.result (g.E.ByteSink.held c.args.err.now) (g.E.ByteSink.held c.answer.new.err) (g.E.ByteSink.faults c.args.err.now) (g.E.ByteSink.faults c.answer.new.err) c.answer.result c.obey-outcome.ensures.obeys c.obey-outcome.ensures.end c.answer.ensures

pub returns-clause-due : goal.returns-clause-due
returns-clause-due g c =
    refusals.due (map string_bytes c.args.words.now) (g.F.Folder.files c.args.folder.now) (g.F.Folder.files c.obey-outcome.new.folder)
    (record { input = g.I.ByteSource.left c.args.input.now; output = g.O.ByteSink.held c.args.out.now })
    (record { input = g.I.ByteSource.left c.obey-outcome.new.input; output = g.O.ByteSink.held c.obey-outcome.new.out })
    c.obey-outcome.result (g.E.ByteSink.held c.args.err.now) (g.E.ByteSink.held c.answer.new.err) (g.E.ByteSink.faults c.args.err.now) (g.E.ByteSink.faults c.answer.new.err) c.answer.result c.obey-outcome.ensures.obeys c.answer.ensures

pub returns-clause-complete : goal.returns-clause-complete
returns-clause-complete g c =
    refusals.complete (map string_bytes c.args.words.now) (g.F.Folder.files c.args.folder.now) (g.F.Folder.files c.obey-outcome.new.folder)
    (record { input = g.I.ByteSource.left c.args.input.now; output = g.O.ByteSink.held c.args.out.now })
    (record { input = g.I.ByteSource.left c.obey-outcome.new.input; output = g.O.ByteSink.held c.obey-outcome.new.out })
    c.obey-outcome.result (g.E.ByteSink.held c.args.err.now) (g.E.ByteSink.held c.answer.new.err)
    (record { reads = g.F.Folder.read_faults c.args.folder.now; writes = g.F.Folder.write_faults c.args.folder.now; input = g.I.ByteSource.faults c.args.input.now; out = g.O.ByteSink.faults c.args.out.now })
    (record { reads = g.F.Folder.read_faults c.obey-outcome.new.folder; writes = g.F.Folder.write_faults c.obey-outcome.new.folder; input = g.I.ByteSource.faults c.obey-outcome.new.input; out = g.O.ByteSink.faults c.obey-outcome.new.out })
    (g.E.ByteSink.faults c.args.err.now) (g.E.ByteSink.faults c.answer.new.err) c.answer.result c.obey-outcome.ensures.obeys c.obey-outcome.ensures.end c.answer.ensures c.obey-outcome.ensures.cause

pub returns-clause-read_fault : goal.returns-clause-read_fault
returns-clause-read_fault g c =
    faults.read_fault (map string_bytes c.args.words.now) c.obey-outcome.result
    (record { reads = g.F.Folder.read_faults c.args.folder.now; writes = g.F.Folder.write_faults c.args.folder.now; input = g.I.ByteSource.faults c.args.input.now; out = g.O.ByteSink.faults c.args.out.now })
    (record { reads = g.F.Folder.read_faults c.obey-outcome.new.folder; writes = g.F.Folder.write_faults c.obey-outcome.new.folder; input = g.I.ByteSource.faults c.obey-outcome.new.input; out = g.O.ByteSink.faults c.obey-outcome.new.out })
    (g.E.ByteSink.held c.args.err.now) (g.E.ByteSink.held c.answer.new.err) (g.E.ByteSink.faults c.args.err.now) (g.E.ByteSink.faults c.answer.new.err) c.answer.result c.obey-outcome.ensures.end c.obey-outcome.ensures.cause c.answer.ensures

pub returns-clause-write_fault : goal.returns-clause-write_fault
returns-clause-write_fault g c =
    faults.write_fault (map string_bytes c.args.words.now) c.obey-outcome.result
    (record { reads = g.F.Folder.read_faults c.args.folder.now; writes = g.F.Folder.write_faults c.args.folder.now; input = g.I.ByteSource.faults c.args.input.now; out = g.O.ByteSink.faults c.args.out.now })
    (record { reads = g.F.Folder.read_faults c.obey-outcome.new.folder; writes = g.F.Folder.write_faults c.obey-outcome.new.folder; input = g.I.ByteSource.faults c.obey-outcome.new.input; out = g.O.ByteSink.faults c.obey-outcome.new.out })
    (g.E.ByteSink.held c.args.err.now) (g.E.ByteSink.held c.answer.new.err) (g.E.ByteSink.faults c.args.err.now) (g.E.ByteSink.faults c.answer.new.err) c.answer.result c.obey-outcome.ensures.end c.obey-outcome.ensures.cause c.answer.ensures

pub returns-clause-stopped : goal.returns-clause-stopped
returns-clause-stopped g c =
    left.stopped (map string_bytes c.args.words.now) (g.F.Folder.files c.args.folder.now) (g.F.Folder.files c.obey-outcome.new.folder)
    (record { input = g.I.ByteSource.left c.args.input.now; output = g.O.ByteSink.held c.args.out.now })
    (record { input = g.I.ByteSource.left c.obey-outcome.new.input; output = g.O.ByteSink.held c.obey-outcome.new.out })
    c.obey-outcome.result (g.E.ByteSink.held c.args.err.now) (g.E.ByteSink.held c.answer.new.err) (g.E.ByteSink.faults c.args.err.now) (g.E.ByteSink.faults c.answer.new.err) c.answer.result c.obey-outcome.ensures.obeys c.answer.ensures

pub returns-clause-front : goal.returns-clause-front
returns-clause-front g c =
    written.front (map string_bytes c.args.words.now) (g.F.Folder.files c.args.folder.now) (g.F.Folder.files c.obey-outcome.new.folder)
    (record { input = g.I.ByteSource.left c.args.input.now; output = g.O.ByteSink.held c.args.out.now })
    (record { input = g.I.ByteSource.left c.obey-outcome.new.input; output = g.O.ByteSink.held c.obey-outcome.new.out })
    c.obey-outcome.result
    (written.quiet (IsRun (map string_bytes c.args.words.now) → ⊥) g.O.ByteSink.held c.args.out.now c.obey-outcome.new.out c.obey-outcome.result c.obey-outcome.ensures.silent)
    c.obey-outcome.ensures.obeys

pub returns-clause-console : goal.returns-clause-console
returns-clause-console g c =
    written.console (map string_bytes c.args.words.now) (g.F.Folder.files c.args.folder.now) (g.F.Folder.files c.obey-outcome.new.folder)
    (record { input = g.I.ByteSource.left c.args.input.now; output = g.O.ByteSink.held c.args.out.now })
    (record { input = g.I.ByteSource.left c.obey-outcome.new.input; output = g.O.ByteSink.held c.obey-outcome.new.out })
    c.obey-outcome.result c.obey-outcome.ensures.obeys

pub returns-clause-silent : goal.returns-clause-silent
returns-clause-silent g c =
    written.silent (c.obey-outcome.new.out ≡ c.args.out.now) (map string_bytes c.args.words.now) c.obey-outcome.result (g.E.ByteSink.held c.args.err.now) (g.E.ByteSink.held c.answer.new.err)
    (g.E.ByteSink.faults c.args.err.now) (g.E.ByteSink.faults c.answer.new.err) c.answer.result c.answer.ensures c.obey-outcome.ensures.only c.obey-outcome.ensures.silent
