use Rattle.std.proofs.Common.{◌+◌, [], ◌∷◌, ◌++◌, List, length, drop, sym, ap, ◌∙◌}
use Rattle.std.specs.Prelude.{slice_set}
use Rattle.run_state.specs.Words.{Word, Ref}
use Rattle.machine_heap.specs.declared.item.Item.{Item}
use Rattle.linked_code.specs.declared.program.LinkedClass.{LinkedClass}
use Rattle.machine.specs.Placed.{characters}
use Rattle.machine.proofs.LiteralRows.{gives_nothing, gives_new}
use Rattle.machine.proofs.literals.make_literal.Goals as goal

pub returns-in_default-clause-ok : goal.returns-in_default-clause-ok
returns-in_default-clause-ok g c = let p = c.args.program.now in gives_nothing g.T.Tag.none_of g.T.Tag.join_of p c.args.text c.args.frame.now c.args.areas.now c.requires.fresh c.in_default.is

pub returns-clause-ok : goal.returns-clause-ok
returns-clause-ok g c =
    let p = c.args.program.now in
    let f = c.args.frame.now in
    let none = g.T.Tag.none_of in
    let k = c.class-class.result.now in
    let array : Item g.row.T.Denot = record { ty = p.chars; own = c.none.result; cells = c.in_ok-elements.field-0 } in
    gives_new g.T.Tag.none_of g.T.Tag.join_of p c.args.text c.args.frame.now c.args.areas.now c.requires.fresh c.in-Some.value c.in-Some-get.units.now array c.set_cell.new.self _ _ c.in-Some.is (sym c.in-Some-get.ensures.value)
    (ap (λ o. record { ty = p.chars; own = o; cells = c.in_ok-elements.field-0 }) c.none.ensures
    ∙ ap (λ (cells : List (Word g.row.T.Denot)). record { ty = p.chars; own = none; cells = cells }) (c.in_ok-elements.ensures ∙ ap (characters none) c.as_slice.ensures))
    (c.set_cell.ensures
    ∙ ap (λ o. record { ty = k.ty; own = o; cells = slice_set c.in_ok-copied.field-0 c.in-Some.value c.reference.result }) c.none-2.ensures
    ∙ ap (λ (cells : List (Word g.row.T.Denot)). record { ty = k.ty; own = none; cells = slice_set cells c.in-Some.value c.reference.result }) (c.in_ok-copied.ensures ∙ c.as_slice-2.ensures)
    ∙ ap (λ (q : Word g.row.T.Denot). record { ty = k.ty; own = none; cells = slice_set k.fresh c.in-Some.value q }) (c.reference.ensures ∙ ap Ref c.len-before.ensures)
    ∙ ap (λ (q : LinkedClass g.row.T.Denot). record { ty = q.ty; own = none; cells = slice_set q.fresh c.in-Some.value (Ref (length c.args.areas.now.heap)) }) c.class-class.ensures)
    (ap (λ (st : List (Word g.row.T.Denot)). record f { next = f.next + 1; stack = st })
    (c.replace.ensures
    ∙ ap (λ (q : Word g.row.T.Denot). q ∷ drop 1 c.push.new.self) (c.reference-2.ensures ∙ ap Ref c.in-Ok.ensures.ok.0)
    ∙ ap (λ (st : List (Word g.row.T.Denot)). Ref (length (c.args.areas.now.heap ++ array ∷ [])) ∷ drop 1 st) c.in_ok-push.ensures.ok))
    c.in-Ok.ensures.ok.1
