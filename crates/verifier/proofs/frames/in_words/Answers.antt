use Rattle.std.proofs.Common.{◌∙◌}
use Rattle.verifier.proofs.Words.{words_step}
use Rattle.verifier.proofs.frames.in_words.Goals as goal

pub loop-ty-preserved : goal.loop-ty-preserved
loop-ty-preserved c =
    words_step c.args.entries.now c.loop-ty.words.items c.push_words.new.words.items c.loop-ty.ty-index c.ty-item.result c.loop-ty-test.true c.ty-item.is c.in_ok-push_words.ensures ∙ c.loop-ty.invariant
