use Rattle.std.proofs.Common.{◌∷◌, reverse, arith}
use Rattle.machine.proofs.Laying.{taken_one}
use Rattle.machine.proofs.callers.take_from.Goals as goal

pub loop-taken-preserved : goal.loop-taken-preserved
loop-taken-preserved g c =
    (taken_one c.loop-taken.below.items c.take_last.new.self.items (c.args.top.now ∷ reverse c.args.below.now.items) c.take_last.result c.loop-taken.top c.loop-taken.taken c.take_last.ensures.items c.loop-taken.invariant.0, omega arith)
