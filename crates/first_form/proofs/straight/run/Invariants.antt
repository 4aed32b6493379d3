use Rattle.std.proofs.Common.{drop, ◌↔◌}
use Rattle.first_form.specs.declared.frame.IntFrame.{IntFrame}
use Rattle.first_form.specs.Typing.{Runs}
use Rattle.first_form.proofs.straight.run.Given as goal

-- all of the code leads where the instructions that are left lead from here
abbrev pub invariant-loop-insn : goal.invariant-loop-insn
invariant-loop-insn l = (h : IntFrame) → Runs l.rules.names l.rules.max_stack l.body l.fn.frame h ↔ Runs l.rules.names l.rules.max_stack (drop l.insn-index l.body) l.frame h
