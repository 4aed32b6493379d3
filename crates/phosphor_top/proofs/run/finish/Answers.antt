use Rattle.phosphor_top.proofs.RunParts as parts
use Rattle.phosphor_top.proofs.run.finish.Goals as goal

pub returns-clause-went : goal.returns-clause-went
returns-clause-went g c =
    parts.told_or_not c.args.set.now c.args.run.now c.drive.new.run c.args.steps (record { input = g.I.ByteSource.left c.args.input.now; output = g.O.ByteSink.held c.args.out.now })
    (record { input = g.I.ByteSource.left c.drive.new.input; output = g.O.ByteSink.held c.drive.new.out }) c.report.result c.requires.of c.drive.ensures.same
    c.in_ok-drive.ensures.ran c.in_ok-drive.ensures.put c.report.ensures.memory c.report.ensures.done
