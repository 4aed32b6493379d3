use Rattle.std.proofs.Common.{◌∙◌, sym}
use Rattle.class_limits.proofs.FarBranches.{far_here}
use Rattle.class_limits.proofs.branches.far_in_insns.Goals as goal

pub returns-in-Some : goal.returns-in-Some
returns-in-Some c =
    sym (far_here _ _ _ _ _ _ _ c.loop-i.invariant c.requires c.loop-i-test.true c.index-insns-i.is c.start_of-from.ensures (sym c.far_branch.ensures ∙ c.in-Some.is))
