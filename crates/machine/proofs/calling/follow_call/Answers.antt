use Rattle.std.proofs.Common.{sym, ap}
use Rattle.machine.specs.declared.invoking.Aim.{Aim}
use Rattle.machine.specs.Called.{call_at}
use Rattle.machine.specs.Unwound.{aimed_at}
use Rattle.machine.proofs.DoneInsns.{answers_same, if_ok}
use Rattle.machine.proofs.calling.follow_call.Goals as goal

pub returns-in-Enters-clause-ok : goal.returns-in-Enters-clause-ok
returns-in-Enters-clause-ok g c = if_ok c.call.result c.call.ensures.ok (λ turn h w more links behind.
    answers_same g.T.Tag.none_of g.T.Tag.join_of w c.args.program.now links c.args.machine.now c.call.new.machine more turn
    (call_at g.T.Tag.none_of g.T.Tag.join_of w c.args.machine.now more c.in-Enters.callee c.in-Enters.words) (aimed_at g.T.Tag.none_of g.T.Tag.join_of w c.args.aim c.args.machine.now more)
    (ap (λ (x : Aim). aimed_at g.T.Tag.none_of g.T.Tag.join_of w x c.args.machine.now more) (sym c.in-Enters.is)) (h w more links behind))
