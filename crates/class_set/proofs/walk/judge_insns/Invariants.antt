use Rattle.std.proofs.Common.{◌≡◌, drop}
use Rattle.set_lookups.specs.First.{first}
use Rattle.class_set.proofs.walk.judge_insns.Given as goal

-- the instructions from here on decide
abbrev pub invariant-loop-insn : goal.invariant-loop-insn
invariant-loop-insn g l = first (g.R.InsnRule.told l.rule l.current) l.insns ≡ first (g.R.InsnRule.told l.rule l.current) (drop l.insn-index l.insns)
