use Rattle.std.proofs.Common.{sym}
use Rattle.machine.proofs.FieldRows.{read_nowhere, read_of_array, read_of_none}
use Rattle.machine.proofs.fields.get_field.Goals as goal

pub returns-in_default-clause-ok : goal.returns-in_default-clause-ok
returns-in_default-clause-ok g c = read_nowhere g.T.Tag.none_of g.T.Tag.join_of c.args.program.now c.args.frame.now c.args.areas.now c.args.place c.in-Item.at (cc) (sym c.in_default.ensures)

pub returns-then-ty-clause-ok : goal.returns-then-ty-clause-ok
returns-then-ty-clause-ok g c =
    read_of_array g.T.Tag.none_of g.T.Tag.join_of c.args.program.now c.args.frame.now c.args.areas.now c.args.place c.in-Item.at (cc) c.in-Some.item.now (sym c.in-Some.ensures) (cc)

pub returns-in_default-get-clause-ok : goal.returns-in_default-get-clause-ok
returns-in_default-get-clause-ok g c =
    read_of_none g.T.Tag.none_of g.T.Tag.join_of c.args.program.now c.args.frame.now c.args.areas.now c.args.place c.in-Item.at (cc) c.in-Some.item.now (sym c.in-Some.ensures) (cc) (sym c.in_default-get.ensures.value)
