use Rattle.size_limits.proofs.Sums.{SumTo}
use Rattle.size_limits.proofs.measure.sum_of.Given as goal

abbrev pub invariant-loop-item : goal.invariant-loop-item
invariant-loop-item g l = SumTo g.M.Measure.measure l.items l.item-index l.sum
