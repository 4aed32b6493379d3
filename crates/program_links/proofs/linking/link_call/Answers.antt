use Rattle.std.proofs.Common.{sym, subst}
use Rattle.class_model.specs.declared.insn.InvokeKind.{InvokeKind}
use Rattle.class_model.specs.declared.insn.InvokeKind.TheVariants as invoke
use Rattle.class_model.specs.declared.insn.Insn.TheVariants as insn
use Rattle.program_links.specs.LinkedTo.{CallAt}
use Rattle.program_links.proofs.linking.link_call.Goals as goal

pub returns-in_ok-call-in-Special-clause-is : goal.returns-in_ok-call-in-Special-clause-is
returns-in_ok-call-in-Special-clause-is c =
    subst (λ (kind : InvokeKind). CallAt c.args.set.now c.call.new.tables invoke.Special (insn.Invoke kind c.args.target.now) c.in_ok-call-in-Special.field-0) (sym c.in-Special.is) (c.in_ok-call-in-Special.ensures.is invoke.Special)

pub returns-in_ok-call-in-Virtual-clause-is : goal.returns-in_ok-call-in-Virtual-clause-is
returns-in_ok-call-in-Virtual-clause-is c =
    subst (λ (kind : InvokeKind). CallAt c.args.set.now c.call-in-Virtual.new.tables invoke.Virtual (insn.Invoke kind c.args.target.now) c.in_ok-call-in-Virtual.field-0) (sym c.in-Virtual.is) (c.in_ok-call-in-Virtual.ensures.is invoke.Virtual)

pub returns-in_ok-call-in-Interface-clause-is : goal.returns-in_ok-call-in-Interface-clause-is
returns-in_ok-call-in-Interface-clause-is c =
    subst (λ (kind : InvokeKind). CallAt c.args.set.now c.call-in-Interface.new.tables invoke.Interface (insn.Invoke kind c.args.target.now) c.in_ok-call-in-Interface.field-0) (sym c.in-Interface.is) (c.in_ok-call-in-Interface.ensures.is invoke.Interface)
