use Rattle.class_decoding.proofs.Counts.{read_counted}
use Rattle.class_decoding.proofs.ClassShape.{read_shaped}
use Rattle.class_decoding.proofs.decode.decode_class.Goals as goal

pub returns-clause-counted : goal.returns-clause-counted
returns-clause-counted c = read_counted c.args.bytes.now c.read_class.result c.read_class.ensures.found

pub returns-clause-shaped : goal.returns-clause-shaped
returns-clause-shaped c = read_shaped c.args.bytes.now c.read_class.result c.read_class.ensures.found
