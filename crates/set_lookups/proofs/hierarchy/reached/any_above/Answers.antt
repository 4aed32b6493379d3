use Rattle.std.proofs.Common.{◌∙◌, ◌+◌, ◌-◌, sym, ap, arith}
use Rattle.std.specs.List.{list_any}
use Rattle.set_lookups.specs.Levels.{list_at}
use Rattle.set_lookups.proofs.AnyLevels.{level_holds, level_fails, level_ends, level_lacks}
use Rattle.set_lookups.proofs.Lists.{no_items}
use Rattle.set_lookups.proofs.hierarchy.reached.any_above.Goals as goal

pub loop-preserved : goal.loop-preserved
loop-preserved g c = λ up levels.
    let f = g.T.ClassTest.passes c.args.test.now in
    let xs = list_at c.args.levels.now c.loop.at in
    let none = ap (list_any f) (sym c.list-numbers.ensures) ∙ sym c.any_passes.ensures ∙ c.if-any_passes.false in
    c.loop.invariant up levels
    ∙ level_fails (c.args.steps - c.loop.counter) (c.args.steps - (c.loop.counter + 1)) up f xs (list_at c.args.levels.now c.next-at.result) (omega (arith, c.loop-test.true)) none (ap (list_at c.args.levels.now) c.next-at.ensures ∙ levels.linked c.loop.at)

pub returns-then-any_passes : goal.returns-then-any_passes
returns-then-any_passes g c = λ up levels.
    let f = g.T.ClassTest.passes c.args.test.now in
    let xs = list_at c.args.levels.now c.loop.at in
    let some = ap (list_any f) (sym c.list-numbers.ensures) ∙ sym c.any_passes.ensures ∙ c.if-any_passes.true in
    sym (c.loop.invariant up levels ∙ level_holds (c.args.steps - c.loop.counter) up f xs some)

pub returns-then-is_empty : goal.returns-then-is_empty
returns-then-is_empty g c = λ up levels.
    let f = g.T.ClassTest.passes c.args.test.now in
    let xs = list_at c.args.levels.now c.loop.at in
    sym (c.loop.invariant up levels ∙ level_lacks (c.args.steps - c.loop.counter) up f xs (sym c.list-numbers.ensures ∙ no_items c.list-numbers.result.now (sym c.is_empty.ensures ∙ c.if-is_empty.true)))

pub returns : goal.returns
returns g c = λ up levels.
    let f = g.T.ClassTest.passes c.args.test.now in
    let xs = list_at c.args.levels.now c.loop.at in
    c.any_passes-2.ensures ∙ ap (list_any f) c.list.ensures ∙ sym (c.loop.invariant up levels ∙ level_ends (c.args.steps - c.loop.counter) up f xs (omega (arith, c.loop-test.false)))
