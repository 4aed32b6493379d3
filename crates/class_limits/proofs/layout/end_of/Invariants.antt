use Rattle.class_limits.proofs.Offsets.{EndsAt}
use Rattle.class_limits.proofs.layout.end_of.Given as goal

abbrev pub invariant-loop-insn : goal.invariant-loop-insn
invariant-loop-insn l = EndsAt l.wide_goto l.insns l.insn-index l.pc
