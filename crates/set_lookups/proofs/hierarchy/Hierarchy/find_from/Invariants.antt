use Rattle.std.proofs.Common.{◌≡◌, ◌-◌, ℕ, List}
use Rattle.set_lookups.specs.Level.{nearest, lifted}
use Rattle.set_lookups.specs.Levels.{IsLevels, list_at}
use Rattle.set_lookups.specs.Lookups as look
use Rattle.set_lookups.proofs.hierarchy.Hierarchy.find_from.Given as goal

-- this level and the further ones decide
abbrev pub invariant-loop-level : goal.invariant-loop-level
invariant-loop-level l =
    let declared = look.declared l.self l.name l.desc look.any_method in
    (up : ℕ → List ℕ) → IsLevels up l.levels → nearest l.steps up declared (list_at l.levels l.start) ≡ lifted l.level (nearest (l.steps - l.level) up declared (list_at l.levels l.at))
