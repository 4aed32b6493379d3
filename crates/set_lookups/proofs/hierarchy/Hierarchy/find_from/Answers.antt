use Rattle.std.proofs.Common.{◌≡◌, ◌∙◌, ◌+◌, ◌-◌, sym, ap, arith}
use Rattle.std.specs.Prelude.{is_some}
use Rattle.set_lookups.specs.First.{first}
use Rattle.set_lookups.specs.Level.{here, lifted, nearest}
use Rattle.set_lookups.specs.Levels.{list_at}
use Rattle.set_lookups.specs.Lookups as look
use Rattle.set_lookups.proofs.Lists.{no_items}
use Rattle.set_lookups.proofs.Nearest.{level_found, level_passed, level_last, level_empty}
use Rattle.set_lookups.proofs.hierarchy.Hierarchy.find_from.Goals as goal
use Rattle.set_lookups.proofs.hierarchy.Hierarchy.find_from.Goals.{then-is_some-via-then-is_some, then-is_some-via-else-is_some+then-is_empty}

pub returns-then-is_some : goal.returns-then-is_some
returns-then-is_some c = λ up levels.
    let f = look.declared c.args.self.now c.args.name.now c.args.desc.now look.any_method in
    let xs = list_at c.args.levels.now c.loop-level.at in
    let near = c.find_level-near.ensures ∙ ap (λ ys. lifted c.loop-level.level (here (first f ys))) c.list-numbers.ensures in
    let whole = c.loop-level.invariant up levels in
    let all = ap (λ n. nearest n up f (list_at c.args.levels.now c.args.start)) c.len-steps.ensures in
    elim c.then-is_some.branch [
      | then-is_some-via-then-is_some w ↦
          near ∙ sym (sym all ∙ whole ∙ level_found (c.len-steps.result - c.loop-level.level) (c.len-steps.result - (c.loop-level.level + 1)) c.loop-level.level up f xs (omega (arith, c.loop-level-test.true)) (ap is_some (sym near) ∙ sym w.if-is_some.ensures))
      | then-is_some-via-else-is_some+then-is_empty w ↦
          near ∙ sym (sym all ∙ whole ∙ level_empty (c.len-steps.result - c.loop-level.level) c.loop-level.level up f xs (sym c.list-numbers.ensures ∙ no_items c.list-numbers.result.now (sym w.is_empty.ensures ∙ w.if-is_empty.true)))
    ]

pub loop-level-preserved : goal.loop-level-preserved
loop-level-preserved c = λ up levels.
    let f = look.declared c.args.self.now c.args.name.now c.args.desc.now look.any_method in
    let xs = list_at c.args.levels.now c.loop-level.at in
    let near = c.find_level-near.ensures ∙ ap (λ ys. lifted c.loop-level.level (here (first f ys))) c.list-numbers.ensures in
    let none = ap is_some (sym near) ∙ sym c.if-is_some.ensures in
    c.loop-level.invariant up levels
    ∙ level_passed (c.len-steps.result - c.loop-level.level) (c.len-steps.result - (c.loop-level.level + 1)) c.loop-level.level up f xs (list_at c.args.levels.now c.next-at.result) (omega (arith, c.loop-level-test.true)) none (ap (list_at c.args.levels.now) c.next-at.ensures ∙ levels.linked c.loop-level.at)

pub returns : goal.returns
returns c = λ up levels.
    let f = look.declared c.args.self.now c.args.name.now c.args.desc.now look.any_method in
    let xs = list_at c.args.levels.now c.loop-level.at in
    let last = c.find_level.ensures ∙ ap (λ ys. lifted c.len-steps.result (here (first f ys))) c.list.ensures in
    let whole : c.len-steps.result ≡ c.loop-level.level = omega (arith, c.loop-level-test.false, c.loop-level.auto.level-end) in
    let at_end = ap (λ d. lifted d (here (first f xs))) whole in
    last ∙ at_end ∙ sym (c.loop-level.invariant up levels ∙ level_last (c.len-steps.result - c.loop-level.level) c.loop-level.level up f xs (omega (arith, c.loop-level-test.false)))
    ∙ ap (λ n. nearest n up f (list_at c.args.levels.now c.args.start)) c.len-steps.ensures
