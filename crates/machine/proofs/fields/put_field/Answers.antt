use Rattle.std.proofs.Common.{◌+◌, sym, ap, ◌∙◌, arith, List}
use Rattle.std.specs.Prelude.{slice_set}
use Rattle.std.proofs.lemmas.Option.{slice_get_within}
use Rattle.run_state.specs.Words.{Word}
use Rattle.machine_heap.specs.declared.item.Item.{Item}
use Rattle.machine_heap.specs.Blocks.{with_cell}
use Rattle.linked_code.specs.declared.program.LinkedType.{LinkedType}
use Rattle.machine.specs.Held.{held_by}
use Rattle.machine.proofs.Places.{held_within}
use Rattle.machine.proofs.FieldWrites.{put_into_null, put_into_nothing, put_nowhere, put_into_array, put}
use Rattle.machine.proofs.fields.put_field.Goals as goal

pub returns-in-Null-clause-ok : goal.returns-in-Null-clause-ok
returns-in-Null-clause-ok g c =
    put_into_null g.T.Tag.none_of g.T.Tag.join_of c.args.program.now c.args.frame.now c.args.areas.now c.args.place c.args.kind c.args.narrowing c.in-Some.value c.words_of-words.result c.in-Some.ensures.value c.words_of-words.ensures (ap held_by (sym c.peek.ensures) ∙ sym c.holding.ensures ∙ c.in-Null.is)

pub returns-in-Nothing-clause-ok : goal.returns-in-Nothing-clause-ok
returns-in-Nothing-clause-ok g c =
    put_into_nothing g.T.Tag.none_of g.T.Tag.join_of c.args.program.now c.args.frame.now c.args.areas.now c.args.place c.args.kind c.args.narrowing c.in-Some.value c.words_of-words.result c.in-Some.ensures.value c.words_of-words.ensures (ap held_by (sym c.peek.ensures) ∙ sym c.holding.ensures ∙ c.in-Nothing.is)

pub returns-in_default-item-clause-ok : goal.returns-in_default-item-clause-ok
returns-in_default-item-clause-ok g c =
    put_nowhere g.T.Tag.none_of g.T.Tag.join_of c.args.program.now c.args.frame.now c.args.areas.now c.args.place c.args.kind c.args.narrowing c.in-Some.value c.words_of-words.result c.in-Some.ensures.value c.words_of-words.ensures c.in-Item.at (ap held_by (sym c.peek.ensures) ∙ sym c.holding.ensures ∙ c.in-Item.is) (sym c.in_default-item.ensures)

pub returns-then-ty-clause-ok : goal.returns-then-ty-clause-ok
returns-then-ty-clause-ok g c =
    put_into_array g.T.Tag.none_of g.T.Tag.join_of c.args.program.now c.args.frame.now c.args.areas.now c.args.place c.args.kind c.args.narrowing c.in-Some.value c.words_of-words.result c.in-Some.ensures.value c.words_of-words.ensures c.in-Item.at (ap held_by (sym c.peek.ensures) ∙ sym c.holding.ensures ∙ c.in-Item.is) c.in-Some-item.item.now (sym c.in-Some-item.ensures) (ap (λ (t : LinkedType g.row.T.Denot). t.is_array) (sym c.ty.ensures) ∙ c.if-ty.true)

pub set_cell-requires : goal.set_cell-requires
set_cell-requires g c = slice_get_within c.args.areas.now.heap c.in-Item.at c.in-Some-item.item.now (sym c.in-Some-item.ensures)

pub drop_tops-requires : goal.drop_tops-requires
drop_tops-requires g c = let l = held_within c.args.frame.now.stack c.words_of-words.result c.in-Item.at (ap held_by (sym c.peek.ensures) ∙ sym c.holding.ensures ∙ c.in-Item.is) in omega arith

pub returns-clause-ok : goal.returns-clause-ok
returns-clause-ok g c =
    let f = c.args.frame.now in
    let a = c.args.areas.now in
    let x = c.in-Some-item.item.now in
    put g.T.Tag.none_of g.T.Tag.join_of c.args.program.now c.args.frame.now c.args.areas.now c.args.place c.args.kind c.args.narrowing c.in-Some.value c.words_of-words.result c.in-Some.ensures.value c.words_of-words.ensures c.in-Item.at (ap held_by (sym c.peek.ensures) ∙ sym c.holding.ensures ∙ c.in-Item.is) x _ _ (sym c.in-Some-item.ensures) (ap (λ (t : LinkedType g.row.T.Denot). t.is_array) (sym c.ty.ensures) ∙ c.if-ty.false)
    (ap (λ (st : List (Word g.row.T.Denot)). record f { next = f.next + 1; stack = st }) c.drop_tops.ensures)
    (ap (λ (h : List (Item g.row.T.Denot)). record a { heap = h }) (c.set_cell.ensures x (sym c.in-Some-item.ensures) ∙ ap (λ v. slice_set a.heap c.in-Item.at (with_cell x c.args.place v)) c.narrowed.ensures))
