use Rattle.std.proofs.Common.{◌≡◌, ◌+◌, List, sym, ap, ◌∙◌, to_z, of_z, to_z-of_z, w32, arith}
use Rattle.run_state.specs.Words.{Word}
use Rattle.run_state.specs.Objects.{element}
use Rattle.machine.specs.Held.{held_by}
use Rattle.machine.proofs.ArrayRows.{load_nowhere, load_past, load}
use Rattle.machine.proofs.Places.{held_within}
use Rattle.machine.proofs.arrays.array_load.Goals as goal

pub returns-in_default-item-clause-ok : goal.returns-in_default-item-clause-ok
returns-in_default-item-clause-ok g c = λ p.
    load_nowhere g.T.Tag.none_of g.T.Tag.join_of p c.args.frame.now c.args.areas.now c.args.element c.in-Some.index c.in-Some.field-0-1 (sym c.in-Some.ensures) c.in-Item.at (ap held_by (sym c.peek.ensures) ∙ sym c.holding.ensures ∙ c.in-Item.is) (sym c.in_default-item.ensures)

pub returns-in_default-element_at-clause-ok : goal.returns-in_default-element_at-clause-ok
returns-in_default-element_at-clause-ok g c = λ p.
    let v = c.in-Some.index in
    let back : to_z w32 (of_z w32 v) ≡ v = grind (arith, to_z-of_z) in
    load_past g.T.Tag.none_of g.T.Tag.join_of p c.args.frame.now c.args.areas.now c.args.element v c.in-Some.field-0-1 (sym c.in-Some.ensures) c.in-Item.at (ap held_by (sym c.peek.ensures) ∙ sym c.holding.ensures ∙ c.in-Item.is) c.in-Some-item.item.now (sym c.in-Some-item.ensures)
    (ap (element c.in-Some-item.item.now.cells) (sym back) ∙ sym c.in_default-element_at.ensures)

pub put_value_for_two-requires : goal.put_value_for_two-requires
put_value_for_two-requires g c = let l = held_within c.args.frame.now.stack 1 c.in-Item.at (ap held_by (sym c.peek.ensures) ∙ sym c.holding.ensures ∙ c.in-Item.is) in omega arith

pub returns-clause-ok : goal.returns-clause-ok
returns-clause-ok g c = λ p.
    let f = c.args.frame.now in
    let v = c.in-Some.index in
    let back : to_z w32 (of_z w32 v) ≡ v = grind (arith, to_z-of_z) in
    load g.T.Tag.none_of g.T.Tag.join_of p c.args.frame.now c.args.areas.now c.args.element v c.in-Some.field-0-1 (sym c.in-Some.ensures) c.in-Item.at (ap held_by (sym c.peek.ensures) ∙ sym c.holding.ensures ∙ c.in-Item.is) c.in-Some-item.item.now c.in-Some-element_at.cell _ (sym c.in-Some-item.ensures)
    (ap (element c.in-Some-item.item.now.cells) (sym back) ∙ sym c.in-Some-element_at.ensures)
    (ap (λ (st : List (Word g.row.T.Denot)). record f { next = f.next + 1; stack = st }) c.put_value_for_two.ensures)
