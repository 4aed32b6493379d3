use Rattle.std.proofs.Common.{◌∙◌}
use Rattle.machine.proofs.CopyWrites.{ready_thrown}
use Rattle.machine.proofs.faults.raise.Goals as goal

pub returns-clause-ok : goal.returns-clause-ok
returns-clause-ok g c = λ w more links.
    c.unwind.ensures.ok w more links
    ∙ ready_thrown g.T.Tag.none_of g.T.Tag.join_of w c.args.program.now links c.args.machine.now c.ready_fault.new.machine more c.args.fault c.in_ok-ready.ready c.in_ok-ready.ensures.ok
