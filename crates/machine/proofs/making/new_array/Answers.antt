use Rattle.std.proofs.Common.{◌≡◌, ◌+◌, ◌∷◌, List, drop, replicate, sym, ap, ◌∙◌, to_z, of_z, to_z-of_z, w32, arith}
use Rattle.run_state.specs.Words.{Word}
use Rattle.run_state.specs.Copying.{as_place}
use Rattle.machine_heap.specs.declared.item.Item.{Item}
use Rattle.linked_code.specs.declared.program.LinkedType.{LinkedType}
use Rattle.linked_code.specs.Numbered.{type_at}
use Rattle.machine.proofs.MakingRows.{make_array}
use Rattle.machine.proofs.making.new_array.Goals as goal

pub returns-clause-ok : goal.returns-clause-ok
returns-clause-ok g c =
    let f = c.args.frame.now in
    let a = c.args.areas.now in
    let v = c.in-Some.count in
    let n = c.in-Some-size_of.size in
    let back : to_z w32 (of_z w32 v) ≡ v = grind (arith, to_z-of_z) in
    let x : Item g.row.T.Denot = record { ty = c.args.ty; own = c.none.result; cells = c.in_ok-cells.cells } in
    make_array g.T.Tag.none_of g.T.Tag.join_of c.args.program.now f a c.args.ty v n c.in-Some.field-0-1 c.in_ok-place.place x _ _ (sym c.in-Some.ensures) (ap as_place (sym back) ∙ sym c.in-Some-size_of.ensures)
    (ap (λ o. record { ty = c.args.ty; own = o; cells = c.in_ok-cells.cells }) c.none.ensures
    ∙ ap (λ (cells : List (Word g.row.T.Denot)). record { ty = c.args.ty; own = g.T.Tag.none_of; cells = cells })
    (c.in_ok-cells.ensures ∙ ap (λ (t : LinkedType g.row.T.Denot). replicate n t.default) (c.ty-2.ensures ∙ ap (λ (t : LinkedType g.row.T.Denot). type_at c.args.program.now t.element) c.ty.ensures)))
    c.in_ok-place.ensures.ok.0
    (ap (λ (st : List (Word g.row.T.Denot)). record f { next = f.next + 1; stack = st }) (c.replace.ensures ∙ ap (λ (q : Word g.row.T.Denot). q ∷ drop 1 f.stack) c.reference.ensures))
    (ap (λ (h : List (Item g.row.T.Denot)). record a { heap = h }) c.in_ok-place.ensures.ok.1)
