use Rattle.std.proofs.Common.{◌≡◌, ◌+◌, ◌∙◌, ap, sym, List, length, take, drop, arith}
use Rattle.std.proofs.lemmas.Option.{slice_get_within}
use Rattle.run_state.specs.Words.{Word}
use Rattle.machine_heap.specs.declared.item.Item.{Item}
use Rattle.linked_code.specs.declared.program.LinkedType.{LinkedType}
use Rattle.linked_code.specs.Numbered.{type_at}
use Rattle.machine.specs.Copied.{fitting_by, laid_in, misfit_at}
use Rattle.machine.proofs.CopyWrites.{no_target, copied_all, copied_some, fit_few}
use Rattle.machine.proofs.Steps.{on_ok}
use Rattle.machine.proofs.copying.carry.Goals as goal

pub returns-in_default-item-clause-ok : goal.returns-in_default-item-clause-ok
returns-in_default-item-clause-ok g c = λ w more links.
    no_target g.T.Tag.none_of g.T.Tag.join_of w c.args.program.now links c.args.machine.now more c.args.words c.args.span c.in-Some.source.now (sym c.in-Some.ensures) c.stop-in_default-item.new.machine (sym c.in_default-item.ensures) c.stop-in_default-item.ensures

pub lay_and_throw-requires-clause-there : goal.lay_and_throw-requires-clause-there
lay_and_throw-requires-clause-there g c = slice_get_within c.args.machine.now.areas.heap c.args.span.target c.in-Some-item.target.now (sym c.in-Some-item.ensures)

pub lay_and_throw-requires-clause-few : goal.lay_and_throw-requires-clause-few
lay_and_throw-requires-clause-few g c =
    let p = c.args.program.now in
    let m = c.args.machine.now in
    let s = c.args.span in
    let x = c.in-Some.source.now in
    let y = c.in-Some-item.target.now in
    let fit = c.in_ok-fit.fit.items in
    let fits : fit ≡ fitting_by p m.areas.heap (type_at p y.ty).element (take s.count (drop s.from x.cells)) =
    c.in_ok-fit.ensures
    ∙ ap (λ (t : LinkedType g.row.T.Denot). fitting_by p m.areas.heap t.element c.part-asked.result.now) c.ty.ensures
    ∙ ap (fitting_by p m.areas.heap (type_at p y.ty).element) (c.part-asked.ensures ∙ ap (λ (cells : List (Word g.row.T.Denot)). take s.count (drop s.from cells)) c.as_slice.ensures) in
    let same : length c.as_slice-then-len-span.result.now ≡ length (fitting_by p m.areas.heap (type_at p y.ty).element (take s.count (drop s.from x.cells))) = ap length (c.as_slice-then-len-span.ensures.value ∙ fits) in
    let few = fit_few p m.areas.heap (type_at p y.ty).element s.count (drop s.from x.cells) in
    omega (arith, same, few)

pub returns-then-len-span-clause-ok : goal.returns-then-len-span-clause-ok
returns-then-len-span-clause-ok g c =
    let p = c.args.program.now in
    let m = c.args.machine.now in
    let s = c.args.span in
    let x = c.in-Some.source.now in
    let y = c.in-Some-item.target.now in
    let fit = c.in_ok-fit.fit.items in
    let fits : fit ≡ fitting_by p m.areas.heap (type_at p y.ty).element (take s.count (drop s.from x.cells)) =
    c.in_ok-fit.ensures
    ∙ ap (λ (t : LinkedType g.row.T.Denot). fitting_by p m.areas.heap t.element c.part-asked.result.now) c.ty.ensures
    ∙ ap (fitting_by p m.areas.heap (type_at p y.ty).element) (c.part-asked.ensures ∙ ap (λ (cells : List (Word g.row.T.Denot)). take s.count (drop s.from cells)) c.as_slice.ensures) in
    on_ok c.lay_and_throw.result c.lay_and_throw.ensures.ok (λ h w more links.
    h w more links
    ∙ ap (λ (ws : List (Word g.row.T.Denot)). misfit_at g.T.Tag.none_of g.T.Tag.join_of w s.target s.to ws m more) c.as_slice-then-len-span.ensures.value
    ∙ copied_some g.T.Tag.none_of g.T.Tag.join_of w p links m more c.args.words s x (sym c.in-Some.ensures) y (sym c.in-Some-item.ensures) fit fits (λ e. omega (arith, e, c.if-len-span.true)))

pub lay-requires-clause-there : goal.lay-requires-clause-there
lay-requires-clause-there g c = slice_get_within c.args.machine.now.areas.heap c.args.span.target c.in-Some-item.target.now (sym c.in-Some-item.ensures)

pub returns-clause-ok : goal.returns-clause-ok
returns-clause-ok g c = λ w more links.
    let p = c.args.program.now in
    let m = c.args.machine.now in
    let s = c.args.span in
    let x = c.in-Some.source.now in
    let y = c.in-Some-item.target.now in
    let fit = c.in_ok-fit.fit.items in
    let fits : fit ≡ fitting_by p m.areas.heap (type_at p y.ty).element (take s.count (drop s.from x.cells)) =
    c.in_ok-fit.ensures
    ∙ ap (λ (t : LinkedType g.row.T.Denot). fitting_by p m.areas.heap t.element c.part-asked.result.now) c.ty.ensures
    ∙ ap (fitting_by p m.areas.heap (type_at p y.ty).element) (c.part-asked.ensures ∙ ap (λ (cells : List (Word g.row.T.Denot)). take s.count (drop s.from cells)) c.as_slice.ensures) in
    let all : length fit ≡ s.count = omega arith in
    copied_all g.T.Tag.none_of g.T.Tag.join_of w p links m more c.args.words s x (sym c.in-Some.ensures) y (sym c.in-Some-item.ensures) fit fits _ c.requires.framed c.requires.running all
    (ap (λ (st : List (Word g.row.T.Denot)). record m { top = record m.top { next = m.top.next + 1; stack = st }; areas = record m.areas { heap = c.lay.new.heap } }) c.drop_tops.ensures
    ∙ ap (λ (heap : List (Item g.row.T.Denot)). record m { top = record m.top { next = m.top.next + 1; stack = drop c.args.words m.top.stack }; areas = record m.areas { heap = heap } })
    (c.lay.ensures ∙ ap (laid_in m.areas.heap s.target s.to) c.as_slice-2.ensures.value))
