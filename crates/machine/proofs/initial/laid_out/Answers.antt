use Rattle.std.proofs.Common.{◌+◌, refl, sym, ap, ◌∙◌, Some, arith}
use Rattle.std.proofs.lemmas.Option.{slice_get-get_or}
use Rattle.machine.proofs.Laid.{copied_more, copied_whole}
use Rattle.machine.proofs.initial.laid_out.Goals as goal

pub loop-k-preserved : goal.loop-k-preserved
loop-k-preserved g c =
    copied_more c.args.words.now c.loop-k.copy c.set.new.self c.loop-k.k (c.loop-k.k + 1) c.index-words-k.result c.loop-k-test.true c.loop-k.invariant.0 c.loop-k.invariant.1
    (slice_get-get_or c.args.words.now c.loop-k.k c.index-words-k.result c.loop-k-test.true ∙ ap Some (sym c.index-words-k.is)) c.set.ensures refl

pub returns : goal.returns
returns g c = copied_whole c.args.words.now c.loop-k.copy c.loop-k.k (omega arith) c.loop-k.invariant
