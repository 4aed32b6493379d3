use Rattle.std.proofs.Common.{sym, ap, ◌∙◌, arith}
use Rattle.linked_code.specs.declared.program.Method.{Method}
use Rattle.linked_code.specs.Links.{native_of}
use Rattle.machine.specs.Called.{call_at, native_at}
use Rattle.machine.proofs.CalledMethods.{call_entered, call_native, call_missing}
use Rattle.machine.proofs.DoneInsns.{answers_same, if_ok}
use Rattle.machine.proofs.calling.call.Goals as goal

pub returns-in_default-clause-ok : goal.returns-in_default-clause-ok
returns-in_default-clause-ok g c = λ w more links behind.
    c.in_ok-enter.ensures.ok w more links
    ∙ sym (call_entered g.T.Tag.none_of g.T.Tag.join_of w c.args.program.now links c.args.machine.now more c.args.callee c.args.words (ap (λ (m : Method). m.native) (sym c.method.ensures) ∙ c.in_default.is))

pub returns-then-words-len-clause-ok : goal.returns-then-words-len-clause-ok
returns-then-words-len-clause-ok g c = λ w more links behind.
    call_missing g.T.Tag.none_of g.T.Tag.join_of w c.args.program.now links c.args.machine.now more c.args.callee c.args.words c.stop.new.machine (omega arith) c.stop.ensures

pub returns-clause-ok : goal.returns-clause-ok
returns-clause-ok g c = if_ok c.carry_out.result c.carry_out.ensures.ok (λ turn h w more links behind.
    answers_same g.T.Tag.none_of g.T.Tag.join_of w c.args.program.now links c.args.machine.now c.carry_out.new.machine more turn
    (native_at g.T.Tag.none_of g.T.Tag.join_of w c.args.machine.now more (native_of c.in-Some.native) c.args.callee c.args.words) (call_at g.T.Tag.none_of g.T.Tag.join_of w c.args.machine.now more c.args.callee c.args.words)
    (sym (call_native g.T.Tag.none_of g.T.Tag.join_of w c.args.program.now links c.args.machine.now more c.args.callee c.args.words c.in-Some.native (ap (λ (m : Method). m.native) (sym c.method.ensures) ∙ c.in-Some.is)))
    (h w more c.args.callee links behind))
