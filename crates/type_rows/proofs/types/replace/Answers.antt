use Rattle.type_rows.specs.Calls.{turned}
use Rattle.type_rows.proofs.Lists.{map_step}
use Rattle.type_rows.proofs.types.replace.Goals as goal

pub loop-i-preserved : goal.loop-i-preserved
loop-i-preserved c =
    map_step (turned c.args.old.now c.args.new.now) c.args.types.now c.loop-i.i c.args.old.now c.loop-i.types c.replace_at.new.types c.loop-i-test.true c.loop-i.invariant c.in_ok-replace_at.ensures
