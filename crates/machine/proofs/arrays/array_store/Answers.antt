use Rattle.std.proofs.Common.{◌≡◌, ◌+◌, List, Some, true, drop, sym, ap, ◌∙◌, subst, to_z, of_z, to_z-of_z, w32, arith}
use Rattle.std.specs.Prelude.{slice_set}
use Rattle.std.proofs.lemmas.Option.{slice_get_within}
use Rattle.run_state.specs.Words.{Word}
use Rattle.run_state.specs.Calls.{narrowed}
use Rattle.run_state.specs.Objects.{element, index_of, kind_of_elem}
use Rattle.machine_heap.specs.declared.item.Item.{Item}
use Rattle.machine_heap.specs.Blocks.{with_cell}
use Rattle.machine_frames.specs.Acts.{HasKind}
use Rattle.linked_code.specs.declared.program.LinkedType.{LinkedType}
use Rattle.linked_code.specs.Kept.{kept_by}
use Rattle.linked_code.specs.Numbered.{type_at}
use Rattle.machine.specs.Held.{held_by}
use Rattle.machine.specs.Referred.{refers_by}
use Rattle.machine.proofs.KindTops.{has_of}
use Rattle.machine.proofs.ArrayWrites.{store_into_nothing, store_into_null, store_nowhere, store_past, store_refused, store}
use Rattle.machine.proofs.Places.{held_within}
use Rattle.machine.proofs.arrays.array_store.Goals as goal

pub returns-in-Null-clause-ok : goal.returns-in-Null-clause-ok
returns-in-Null-clause-ok g c =
    store_into_null g.T.Tag.none_of g.T.Tag.join_of c.args.program.now c.args.frame.now c.args.areas.now c.args.element c.in-Some.value c.words_of-words.result
    (has_of (kind_of_elem c.args.element) c.kind_of-kind.result c.args.frame.now.stack c.in-Some.value (drop c.words_of-words.result c.args.frame.now.stack) (sym c.kind_of-kind.ensures) (subst (λ n. HasKind c.kind_of-kind.result c.args.frame.now.stack c.in-Some.value (drop n c.args.frame.now.stack)) (sym c.words_of-words.ensures) c.in-Some.ensures.value))
    c.in-Some-int_at.index c.in-Some-int_at.field-0-1 (sym c.in-Some-int_at.ensures) (ap held_by (sym c.peek.ensures) ∙ sym c.holding.ensures ∙ c.in-Null.is)

pub returns-in-Nothing-clause-ok : goal.returns-in-Nothing-clause-ok
returns-in-Nothing-clause-ok g c =
    store_into_nothing g.T.Tag.none_of g.T.Tag.join_of c.args.program.now c.args.frame.now c.args.areas.now c.args.element c.in-Some.value c.words_of-words.result
    (has_of (kind_of_elem c.args.element) c.kind_of-kind.result c.args.frame.now.stack c.in-Some.value (drop c.words_of-words.result c.args.frame.now.stack) (sym c.kind_of-kind.ensures) (subst (λ n. HasKind c.kind_of-kind.result c.args.frame.now.stack c.in-Some.value (drop n c.args.frame.now.stack)) (sym c.words_of-words.ensures) c.in-Some.ensures.value))
    c.in-Some-int_at.index c.in-Some-int_at.field-0-1 (sym c.in-Some-int_at.ensures) (ap held_by (sym c.peek.ensures) ∙ sym c.holding.ensures ∙ c.in-Nothing.is)

pub returns-in_default-item-clause-ok : goal.returns-in_default-item-clause-ok
returns-in_default-item-clause-ok g c =
    store_nowhere g.T.Tag.none_of g.T.Tag.join_of c.args.program.now c.args.frame.now c.args.areas.now c.args.element c.in-Some.value c.words_of-words.result
    (has_of (kind_of_elem c.args.element) c.kind_of-kind.result c.args.frame.now.stack c.in-Some.value (drop c.words_of-words.result c.args.frame.now.stack) (sym c.kind_of-kind.ensures) (subst (λ n. HasKind c.kind_of-kind.result c.args.frame.now.stack c.in-Some.value (drop n c.args.frame.now.stack)) (sym c.words_of-words.ensures) c.in-Some.ensures.value))
    c.in-Some-int_at.index c.in-Some-int_at.field-0-1 (sym c.in-Some-int_at.ensures) c.in-Item.at (ap held_by (sym c.peek.ensures) ∙ sym c.holding.ensures ∙ c.in-Item.is) (sym c.in_default-item.ensures)

pub returns-in_default-element_at-clause-ok : goal.returns-in_default-element_at-clause-ok
returns-in_default-element_at-clause-ok g c =
    let v = c.in-Some-int_at.index in
    let back : to_z w32 (of_z w32 v) ≡ v = grind (arith, to_z-of_z) in
    store_past g.T.Tag.none_of g.T.Tag.join_of c.args.program.now c.args.frame.now c.args.areas.now c.args.element c.in-Some.value c.words_of-words.result
    (has_of (kind_of_elem c.args.element) c.kind_of-kind.result c.args.frame.now.stack c.in-Some.value (drop c.words_of-words.result c.args.frame.now.stack) (sym c.kind_of-kind.ensures) (subst (λ n. HasKind c.kind_of-kind.result c.args.frame.now.stack c.in-Some.value (drop n c.args.frame.now.stack)) (sym c.words_of-words.ensures) c.in-Some.ensures.value))
    c.in-Some-int_at.index c.in-Some-int_at.field-0-1 (sym c.in-Some-int_at.ensures) c.in-Item.at (ap held_by (sym c.peek.ensures) ∙ sym c.holding.ensures ∙ c.in-Item.is) c.in-Some-item.item.now (sym c.in-Some-item.ensures)
    (ap (element c.in-Some-item.item.now.cells) (sym back) ∙ sym c.in_default-element_at.ensures)

pub returns-then-not-refers-clause-ok : goal.returns-then-not-refers-clause-ok
returns-then-not-refers-clause-ok g c =
    let v = c.in-Some-int_at.index in
    let back : to_z w32 (of_z w32 v) ≡ v = grind (arith, to_z-of_z) in
    store_refused g.T.Tag.none_of g.T.Tag.join_of c.args.program.now c.args.frame.now c.args.areas.now c.args.element c.in-Some.value c.words_of-words.result
    (has_of (kind_of_elem c.args.element) c.kind_of-kind.result c.args.frame.now.stack c.in-Some.value (drop c.words_of-words.result c.args.frame.now.stack) (sym c.kind_of-kind.ensures) (subst (λ n. HasKind c.kind_of-kind.result c.args.frame.now.stack c.in-Some.value (drop n c.args.frame.now.stack)) (sym c.words_of-words.ensures) c.in-Some.ensures.value))
    c.in-Some-int_at.index c.in-Some-int_at.field-0-1 (sym c.in-Some-int_at.ensures) c.in-Item.at (ap held_by (sym c.peek.ensures) ∙ sym c.holding.ensures ∙ c.in-Item.is) c.in-Some-item.item.now (sym c.in-Some-item.ensures)
    c.in-Some-element_at.field-0 (ap (element c.in-Some-item.item.now.cells) (sym back) ∙ sym c.in-Some-element_at.ensures)
    (sym (c.refers.ensures ∙ ap (λ h. refers_by c.args.program.now c.args.areas.now.heap c.ty.result.now.element true h) c.holding-2.ensures ∙ ap (λ (t : LinkedType g.row.T.Denot). refers_by c.args.program.now c.args.areas.now.heap t.element true (held_by (Some c.in-Some.value))) c.ty.ensures) ∙ c.if-not-refers.true)

pub set_cell-requires : goal.set_cell-requires
set_cell-requires g c = slice_get_within c.args.areas.now.heap c.in-Item.at c.in-Some-item.item.now (sym c.in-Some-item.ensures)

pub drop_tops-requires : goal.drop_tops-requires
drop_tops-requires g c = let l = held_within c.args.frame.now.stack (c.words_of-words.result + 1) c.in-Item.at (ap held_by (sym c.peek.ensures) ∙ sym c.holding.ensures ∙ c.in-Item.is) in omega arith

pub returns-clause-ok : goal.returns-clause-ok
returns-clause-ok g c =
    let f = c.args.frame.now in
    let a = c.args.areas.now in
    let x = c.in-Some-item.item.now in
    let v = c.in-Some-int_at.index in
    let back : to_z w32 (of_z w32 v) ≡ v = grind (arith, to_z-of_z) in
    store g.T.Tag.none_of g.T.Tag.join_of c.args.program.now c.args.frame.now c.args.areas.now c.args.element c.in-Some.value c.words_of-words.result
    (has_of (kind_of_elem c.args.element) c.kind_of-kind.result c.args.frame.now.stack c.in-Some.value (drop c.words_of-words.result c.args.frame.now.stack) (sym c.kind_of-kind.ensures) (subst (λ n. HasKind c.kind_of-kind.result c.args.frame.now.stack c.in-Some.value (drop n c.args.frame.now.stack)) (sym c.words_of-words.ensures) c.in-Some.ensures.value))
    c.in-Some-int_at.index c.in-Some-int_at.field-0-1 (sym c.in-Some-int_at.ensures) c.in-Item.at (ap held_by (sym c.peek.ensures) ∙ sym c.holding.ensures ∙ c.in-Item.is) x (sym c.in-Some-item.ensures)
    c.in-Some-element_at.field-0 (ap (element c.in-Some-item.item.now.cells) (sym back) ∙ sym c.in-Some-element_at.ensures) _ _
    (sym (c.refers.ensures ∙ ap (λ h. refers_by c.args.program.now c.args.areas.now.heap c.ty.result.now.element true h) c.holding-2.ensures ∙ ap (λ (t : LinkedType g.row.T.Denot). refers_by c.args.program.now c.args.areas.now.heap t.element true (held_by (Some c.in-Some.value))) c.ty.ensures) ∙ c.if-not-refers.false)
    (ap (λ (st : List (Word g.row.T.Denot)). record f { next = f.next + 1; stack = st }) c.drop_tops.ensures)
    (ap (λ (h : List (Item g.row.T.Denot)). record a { heap = h })
    (c.set_cell.ensures x (sym c.in-Some-item.ensures)
    ∙ ap (λ k. slice_set a.heap c.in-Item.at (with_cell x k c.narrowed-kept.result)) (c.place_of.ensures ∙ ap index_of back)
    ∙ ap (λ q. slice_set a.heap c.in-Item.at (with_cell x (index_of v) q))
    (c.narrowed-kept.ensures ∙ ap (λ (t : LinkedType g.row.T.Denot). narrowed (kept_by t.narrowing) c.in-Some.value) (c.ty-2.ensures ∙ ap (λ (t : LinkedType g.row.T.Denot). type_at c.args.program.now t.element) c.ty.ensures))))
