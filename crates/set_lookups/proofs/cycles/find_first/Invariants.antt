use Rattle.std.proofs.Common.{◌≡◌, drop}
use Rattle.set_lookups.specs.First.{first_from, name_if}
use Rattle.set_lookups.specs.Cycle.{cycle, is_in_cycle}
use Rattle.set_lookups.proofs.cycles.find_first.Given as goal

-- the classes from here on decide
abbrev pub invariant-loop-at : goal.invariant-loop-at
invariant-loop-at l = cycle l.classes ≡ first_from (name_if (is_in_cycle l.classes)) l.at (drop l.at l.classes)
