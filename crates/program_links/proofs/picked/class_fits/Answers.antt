use Rattle.program_links.proofs.Fitting.{below_fits, other_fits}
use Rattle.program_links.proofs.picked.class_fits.Goals as goal

pub returns-then-subtype : goal.returns-then-subtype
returns-then-subtype c = below_fits c.args.set.now c.args.low c.args.high c.class-class.result.now c.subtype.result c.requires.closed c.requires.low c.class-class.ensures c.subtype.ensures.value c.if-subtype.true

pub returns-else-subtype : goal.returns-else-subtype
returns-else-subtype c =
    other_fits c.args.set.now c.args.low c.args.high c.class-class.result.now c.subtype.result c.is_object_name.result c.requires.closed c.requires.low c.class-class.ensures c.subtype.ensures.value c.if-subtype.false c.is_object_name.ensures
