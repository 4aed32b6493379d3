use Rattle.std.proofs.Common.{◌∙◌, subst}
use Rattle.class_model.specs.declared.insn.Insn.TheVariants as insn
use Rattle.std.specs.Prelude.{Some}
use Rattle.linked_code.specs.declared.op.Op.{Op}
use Rattle.linked_code.specs.Linked.{Linked}
use Rattle.machine.proofs.DoneInsns.{done_same}
use Rattle.machine.proofs.performing.perform.Goals as goal

pub returns-in_ok-give_back-in-ReturnValue-clause-ok : goal.returns-in_ok-give_back-in-ReturnValue-clause-ok
returns-in_ok-give_back-in-ReturnValue-clause-ok g c = λ w more i links linked behind.
    c.in_ok-give_back-in-ReturnValue.ensures.ok w more links ∙ done_same g.T.Tag.none_of g.T.Tag.join_of w c.args.program.now links c.args.machine.now more i (insn.Return (Some c.in-ReturnValue.kind)) (subst (λ (o : Op). Linked w c.args.program.now i o) c.in-ReturnValue.is linked)
