use Rattle.std.proofs.Common.{arith}
use Rattle.machine.proofs.Laying.{laid_room}
use Rattle.machine.proofs.beginning.begin_above.Goals as goal

pub take_off-requires : goal.take_off-requires
take_off-requires g c =
    laid_room c.args.frames.items c.args.machine.now.below c.lay.new.self c.args.machine.now.top c.lay.new.top c.len-count.result (omega (arith, c.args.frames.ok.0)) c.in_ok-lay.ensures.ok
