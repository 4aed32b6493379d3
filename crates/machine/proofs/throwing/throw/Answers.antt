use Rattle.std.proofs.Common.{sym, ap, ◌∙◌}
use Rattle.linked_code.specs.declared.program.LinkedType.{LinkedType}
use Rattle.machine.specs.Held.{held_by}
use Rattle.machine.proofs.ThrowRows.{throws_nowhere, throws_item}
use Rattle.machine.proofs.throwing.throw.Goals as goal

pub returns-in_default-clause-ok : goal.returns-in_default-clause-ok
returns-in_default-clause-ok g c = λ w more links.
    throws_nowhere g.T.Tag.none_of g.T.Tag.join_of w c.args.machine.now more c.stop-in_default.new.machine c.in-Item.at (ap held_by (sym c.peek.ensures) ∙ sym c.holding.ensures ∙ c.in-Item.is) (sym c.in_default.ensures) c.stop-in_default.ensures

pub returns-clause-ok : goal.returns-clause-ok
returns-clause-ok g c = λ w more links.
    c.unwind.ensures.ok w more links
    ∙ throws_item g.T.Tag.none_of g.T.Tag.join_of w c.args.machine.now more c.args.program.now c.in-Item.at c.ty.result.now.base c.in-Some.item.now links (ap held_by (sym c.peek.ensures) ∙ sym c.holding.ensures ∙ c.in-Item.is) (sym c.in-Some.ensures) (ap (λ (t : LinkedType g.row.T.Denot). t.base) c.ty.ensures)
