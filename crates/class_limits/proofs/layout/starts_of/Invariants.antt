use Rattle.class_limits.proofs.Offsets.{StartsAt}
use Rattle.class_limits.proofs.layout.starts_of.Given as goal

abbrev pub invariant-loop-insn : goal.invariant-loop-insn
invariant-loop-insn l = StartsAt l.wide_goto l.insns l.insn-index l.pc l.starts
