use Rattle.std.proofs.Common.{◌+◌, ◌-◌, length, refl}
use Rattle.machine.proofs.Laying.{blank_next}
use Rattle.machine.proofs.beginning.blank_frames.Goals as goal

pub loop-behind-preserved : goal.loop-behind-preserved
loop-behind-preserved g c =
    let ns = c.args.numbers.now in
    let b = c.loop-behind.behind in
    blank_next c.args.program.now ns b (length ns - b) (length ns - 1 - b) (length ns - (b + 1)) c.method-method.result.now c.loop-behind.frames.items c.push.new.self.items c.in_ok-frame.frame c.loop-behind-test.true refl refl refl c.loop-behind.invariant
    c.in_ok-frame.ensures c.method-method.ensures c.in_ok-push.ensures.items
