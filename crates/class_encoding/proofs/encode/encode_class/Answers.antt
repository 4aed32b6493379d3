use Rattle.class_encoding.proofs.Fitting.{fitting}
use Rattle.class_encoding.proofs.encode.encode_class.Goals as goal

pub write_class-requires : goal.write_class-requires
write_class-requires c = fitting c.args.class.now c.requires c.in_ok-check_limits.ensures
