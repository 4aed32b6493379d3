use Rattle.program_links.proofs.Typing.{names_below, names_other}
use Rattle.program_links.proofs.type_rows.bases_fit.Goals as goal

pub returns-then-subtype : goal.returns-then-subtype
returns-then-subtype c =
    names_below c.args.set.now c.args.low.now c.args.high.now c.in-Class-Class.field-0-0 c.in-Class-Class.name c.args.low_class c.args.high_class c.subtype.result c.requires.closed c.in-Class-Class.is-0 c.in-Class-Class.is-1 c.requires.low_is c.requires.high_is c.subtype.ensures.value c.if-subtype.true

pub returns-else-subtype : goal.returns-else-subtype
returns-else-subtype c =
    names_other c.args.set.now c.args.low.now c.args.high.now c.in-Class-Class.field-0-0 c.in-Class-Class.name c.args.low_class c.args.high_class c.subtype.result c.is_object_name.result c.requires.closed c.in-Class-Class.is-0 c.in-Class-Class.is-1 c.requires.low_is c.requires.high_is c.subtype.ensures.value c.if-subtype.false c.is_object_name.ensures
