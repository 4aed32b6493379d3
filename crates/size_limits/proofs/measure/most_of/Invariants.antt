use Rattle.size_limits.proofs.Sums.{MostTo}
use Rattle.size_limits.proofs.measure.most_of.Given as goal

abbrev pub invariant-loop-item : goal.invariant-loop-item
invariant-loop-item g l = MostTo g.M.Measure.measure l.items l.item-index l.greatest
