use Rattle.std.proofs.Common.{refl, arith}
use Rattle.machine.proofs.Entering.{entry_missing, entered_with}
use Rattle.machine.proofs.calls.enter.Goals as goal

pub returns-then-words-len-clause-ok : goal.returns-then-words-len-clause-ok
returns-then-words-len-clause-ok g c = λ w more links.
    entry_missing g.T.Tag.none_of g.T.Tag.join_of w c.args.machine.now more c.args.callee c.args.words c.stop.new.machine (omega arith) c.stop.ensures

pub returns-clause-ok : goal.returns-clause-ok
returns-clause-ok g c = λ w more links.
    entered_with g.T.Tag.none_of g.T.Tag.join_of w c.args.machine.now more c.args.callee c.args.words c.args.program.now c.in_ok-frame.frame c.method-method.result.now c.saturating_sub.result _
    c.copy_arguments.new.locals c.drop_tops.new.self c.push.new.self c.exchange.new.self c.exchange.new.frame
    (omega arith) c.requires.framed c.requires.running links c.method-method.ensures c.saturating_sub.ensures c.in_ok-frame.ensures refl c.copy_arguments.ensures c.drop_tops.ensures c.in_ok-push.ensures.ok c.exchange.ensures
