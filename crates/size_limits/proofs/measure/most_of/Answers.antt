use Rattle.size_limits.proofs.Sums.{most_none, most_more}
use Rattle.size_limits.proofs.measure.most_of.Goals as goal

pub loop-item-init : goal.loop-item-init
loop-item-init g c = most_none _ _

pub loop-item-preserved : goal.loop-item-preserved
loop-item-preserved g c = most_more _ _ _ _ c.item-item.result _ _ c.loop-item.invariant c.loop-item-test.true c.item-item.is c.measure.ensures c.larger-greatest.ensures
