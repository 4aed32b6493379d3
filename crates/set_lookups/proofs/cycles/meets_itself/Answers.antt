use Rattle.std.proofs.Common.{ℕ, ◌≡◌, ◌∙◌, ◌+◌, ◌-◌, [], eqb, sym, ap, arith}
use Rattle.std.specs.Prelude.{flat_map}
use Rattle.std.specs.List.{list_any}
use Rattle.set_lookups.specs.Levels.{once, any_levels, edge}
use Rattle.set_lookups.proofs.AnyLevels.{levels_once, level_holds, level_fails, level_ends, level_lacks}
use Rattle.set_lookups.proofs.cycles.meets_itself.Goals as goal

pub loop-init : goal.loop-init
loop-init c =
    let up = edge c.args.edges.now in
    let all : c.args.steps ≡ c.args.steps - 0 = omega arith in
    let test = λ (other : ℕ). eqb other c.args.number in
    sym (levels_once c.args.steps up test (up c.args.number)) ∙ ap (any_levels c.args.steps up test) (sym (c.in_ok-list.ensures ∙ ap (once []) c.list_of.ensures))
    ∙ ap (λ n. any_levels n up test c.in_ok-list.list) all

pub loop-preserved : goal.loop-preserved
loop-preserved c =
    let up = edge c.args.edges.now in
    let test = λ (other : ℕ). eqb other c.args.number in
    let none = ap (list_any test) (sym c.as_slice.ensures) ∙ sym c.contains.ensures ∙ c.if-contains.false in
    c.loop.invariant
    ∙ level_fails (c.args.steps - c.loop.counter) (c.args.steps - (c.loop.counter + 1)) up test c.loop.list c.in_ok-list-2.list (omega (arith, c.loop-test.true)) none (c.in_ok-list-2.ensures ∙ ap (λ xs. once [] (flat_map up xs)) c.as_slice-in-loop.ensures)

pub returns-then-contains : goal.returns-then-contains
returns-then-contains c =
    let test = λ (other : ℕ). eqb other c.args.number in
    let some = ap (list_any test) (sym c.as_slice.ensures) ∙ sym c.contains.ensures ∙ c.if-contains.true in
    sym (c.loop.invariant ∙ level_holds (c.args.steps - c.loop.counter) (edge c.args.edges.now) test c.loop.list some)

pub returns-then-is_empty : goal.returns-then-is_empty
returns-then-is_empty c =
    let test = λ (other : ℕ). eqb other c.args.number in
    sym (c.loop.invariant ∙ level_lacks (c.args.steps - c.loop.counter) (edge c.args.edges.now) test c.loop.list (c.is_empty.ensures.0 c.if-is_empty.true))

pub returns : goal.returns
returns c =
    let test = λ (other : ℕ). eqb other c.args.number in
    c.contains-2.ensures ∙ ap (list_any test) c.as_slice-2.ensures ∙ sym (c.loop.invariant ∙ level_ends (c.args.steps - c.loop.counter) (edge c.args.edges.now) test c.loop.list (omega (arith, c.loop-test.false)))
