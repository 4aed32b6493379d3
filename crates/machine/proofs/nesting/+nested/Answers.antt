use Rattle.std.proofs.Common.{◌+◌, ◌-◌, drop, map, sym, ap, ◌∙◌, subst, arith}
use Rattle.std.specs.Prelude.{slice_index_or}
use Rattle.std.proofs.lemmas.List.{drop_more}
use Rattle.run_state.specs.Words.{Word}
use Rattle.run_state.specs.Objects.{made_times, nested}
use Rattle.machine_heap.specs.declared.item.Item.{Item}
use Rattle.linked_code.specs.declared.program.LinkedType.{LinkedType}
use Rattle.linked_code.specs.World.{tags_of}
use Rattle.machine.specs.Shown.{item_of}
use Rattle.machine.specs.Nested.{Nests}
use Rattle.machine.proofs.NestedArrays.{grows_then, made_next, made_all, nests_some}
use Rattle.machine.proofs.nesting.+nested.Goals as goal

pub loop-k-preserved : goal.loop-k-preserved
loop-k-preserved g t c =
    let sizes = c.args.sizes.now in
    let size = slice_index_or sizes c.args.at 0 in
    let k = c.loop-k.k in (
      λ w links.
          let make = nested (tags_of g.T.Tag.none_of g.T.Tag.join_of w) (drop (c.args.at + 1) sizes) (w.ty c.ty-2.result.now.element) in
          made_next make (size - k) (size - (k + 1)) (map (item_of w) c.loop-k.heap) (map (item_of w) c.nested.new.heap) c.loop-k.cells c.push.new.self c.in_ok-word.word (made_times size make (map (item_of w) c.args.heap.now)) (c.loop-k.invariant.0 w links)
          (omega arith) (c.in_ok-word.ensures.ok w links) c.in_ok-push.ensures.ok,
      grows_then c.args.heap.now c.loop-k.heap c.nested.new.heap c.loop-k.invariant.1 c.nested.ensures.grown,
    )

pub returns-clause-ok : goal.returns-clause-ok
returns-clause-ok g t c = λ w links.
    let none = g.T.Tag.none_of in
    let join = g.T.Tag.join_of in
    let sizes = c.args.sizes.now in
    let at = c.args.at in
    let size = slice_index_or sizes at 0 in
    let rest = drop (at + 1) sizes in
    let old = c.args.heap.now in
    let cells = c.loop-k.cells in
    let make = nested (tags_of none join w) rest (w.ty c.ty-2.result.now.element) in
    let made = made_all make (size - c.loop-k.k) (map (item_of w) c.loop-k.heap) cells (made_times size make (map (item_of w) old)) (c.loop-k.invariant.0 w links) (omega arith) in
    let x : Item g.row.T.Denot = record { ty = c.args.ty; own = c.none.result; cells = cells } in
    subst (λ (v : Word g.row.T.Denot). Nests none join w old c.add.new.self (drop at sizes) c.args.ty v) (sym c.reference.ensures)
    (nests_some none join w c.args.program.now links old c.loop-k.heap c.add.new.self (drop at sizes) rest size c.args.ty c.in_ok-place.place cells x
    (drop_more sizes at 0 (omega arith))
    (ap (λ (q : LinkedType g.row.T.Denot). made_times size (nested (tags_of none join w) rest (w.ty q.element)) (map (item_of w) old)) (sym c.ty-2.ensures) ∙ made)
    (ap (λ o. record { ty = c.args.ty; own = o; cells = cells }) c.none.ensures) c.in_ok-place.ensures.ok.1 c.in_ok-place.ensures.ok.0)
