use Rattle.std.proofs.Common.{ap}
use Rattle.class_model.specs.declared.insn.Insn.TheVariants.{Bin}
use Rattle.class_model.specs.declared.insn.Width.{Width}
use Rattle.class_model.specs.declared.insn.Width.TheVariants as widths
use Rattle.first_form.specs.Typing.{IsFirstOp}
use Rattle.first_form.specs.Typing.{JoinsInts}
use Rattle.first_form.proofs.Follows.{follows_with, follows_at}
use Rattle.first_form.proofs.frame.IntFrame.operate.Goals as goal

pub returns-then-is_first_operation : goal.returns-then-is_first_operation
returns-then-is_first_operation c =
    let f = c.args.self.now in
    follows_at c.args.rules.names c.args.rules.max_stack (Bin c.args.width c.args.op) (Bin widths.Int c.args.op) f c.join_ints.result c.join_ints.new.self
    (ap (λ (width : Width). Bin width c.args.op) c.in-Int.is)
    (follows_with (IsFirstOp c.args.op) (JoinsInts f) c.join_ints.result c.join_ints.new.self (c.is_first_operation.ensures.0 c.if-is_first_operation.true) c.join_ints.ensures)
