use Rattle.std.proofs.Common.{◌≡◌, ◌-◌, ℕ, List}
use Rattle.set_lookups.specs.Levels.{IsLevels, any_levels, list_at}
use Rattle.set_lookups.proofs.hierarchy.reached.any_above.Given as goal

-- this level and the further ones decide
abbrev pub invariant-loop : goal.invariant-loop
invariant-loop g l =
    let passes = g.T.ClassTest.passes l.test in
    (up : ℕ → List ℕ) → IsLevels up l.levels → any_levels l.steps up passes (list_at l.levels l.start) ≡ any_levels (l.steps - l.counter) up passes (list_at l.levels l.at)
