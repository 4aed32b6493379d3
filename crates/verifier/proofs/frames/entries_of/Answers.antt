use Rattle.std.proofs.Common.{◌∙◌}
use Rattle.verifier.proofs.Words.{entries_step}
use Rattle.verifier.proofs.frames.entries_of.Goals as goal

pub loop-ty-preserved : goal.loop-ty-preserved
loop-ty-preserved c =
    entries_step c.args.words.now c.loop-ty.entries c.push_entry.new.entries c.loop-ty.in_long c.in_ok-in_long.in_long c.loop-ty.ty-index c.ty-item.result c.loop-ty-test.true c.ty-item.is c.in_ok-in_long.ensures ∙ c.loop-ty.invariant
