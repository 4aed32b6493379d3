use Rattle.std.proofs.Common.{ℕ, ◌≡◌, ◌-◌, eqb}
use Rattle.set_lookups.specs.Levels.{any_levels, edge}
use Rattle.set_lookups.proofs.cycles.meets_itself.Given as goal

-- this level and the further ones decide
abbrev pub invariant-loop : goal.invariant-loop
invariant-loop l =
    let up = edge l.edges in
    let test = λ (other : ℕ). eqb other l.number in
    any_levels l.steps up test (up l.number) ≡ any_levels (l.steps - l.counter) up test l.list
