use Rattle.std.proofs.Common.{◌∙◌, ap}
use Rattle.class_limits.specs.Limits.{told}
use Rattle.class_limits.specs.Sizes.{size_at}
use Rattle.class_limits.proofs.Offsets.{starts_more}
use Rattle.class_limits.proofs.layout.starts_of.Goals as goal

pub loop-insn-preserved : goal.loop-insn-preserved
loop-insn-preserved c =
    starts_more _ _ _ _ _ c.insn-item.result _ _ c.loop-insn.invariant c.requires c.loop-insn-test.true c.insn-item.is (c.size_at.ensures ∙ ap (λ n. told (size_at c.args.wide_goto n c.insn-item.result)) c.from.ensures) c.in_ok-push.ensures.ok
