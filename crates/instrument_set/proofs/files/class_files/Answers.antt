use Rattle.instrument_set.proofs.Filed.{one_more}
use Rattle.instrument_set.proofs.files.class_files.Goals as goal

pub loop-class-preserved : goal.loop-class-preserved
loop-class-preserved c =
    one_more c.loop-class.files.items c.push.new.self.items c.args.classes.now c.loop-class.class-index c.in_ok-class_file.field-0 c.class-item.result
    c.loop-class-test.true c.class-item.is c.loop-class.invariant c.in_ok-class_file.ensures c.in_ok-push.ensures.items
