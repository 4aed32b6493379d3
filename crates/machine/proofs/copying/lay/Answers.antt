use Rattle.std.proofs.Common.{arith}
use Rattle.machine.proofs.Laid.{laid_next}
use Rattle.machine.proofs.copying.lay.Goals as goal

pub loop-k-preserved : goal.loop-k-preserved
loop-k-preserved g c =
    laid_next c.loop-k.heap c.set_cell.new.self _ c.args.words.now c.args.target c.args.to c.loop-k.k _ c.index-words-k.result c.loop-k-test.true c.index-words-k.is (omega (arith, c.requires.there, c.loop-k.invariant.1)) c.set_cell.ensures
    c.loop-k.invariant.0 c.loop-k.invariant.1
