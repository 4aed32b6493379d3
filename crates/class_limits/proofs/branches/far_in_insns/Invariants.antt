use Rattle.std.specs.Prelude.{zip}
use Rattle.class_limits.specs.Branches.{far_branch}
use Rattle.class_limits.proofs.First.{NoneYet}
use Rattle.class_limits.proofs.branches.far_in_insns.Given as goal

abbrev pub invariant-loop-i : goal.invariant-loop-i
invariant-loop-i l = NoneYet (far_branch l.layout.starts) (zip l.layout.starts l.insns) l.i
