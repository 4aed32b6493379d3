use Rattle.size_limits.proofs.Noted.{noted_none, noted_more}
use Rattle.size_limits.proofs.pool.note_all.Goals as goal

pub loop-named-init : goal.loop-named-init
loop-named-init g c = noted_none _ _ _

pub loop-named-preserved : goal.loop-named-preserved
loop-named-preserved g c = noted_more _ _ _ _ _ c.named-item.result _ c.loop-named.invariant c.loop-named-test.true c.named-item.is c.in_ok-note.ensures
