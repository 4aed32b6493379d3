use Rattle.std.proofs.Common.{◌≡◌, length}
use Rattle.set_lookups.specs.Lookups.{supers}
use Rattle.class_set.specs.Open as table
use Rattle.class_set.proofs.Levelled.{any_at, all_up}
use Rattle.class_set.proofs.open.any_open_up.Given as goal

-- the superclasses from here on decide
abbrev pub invariant-loop-higher : goal.invariant-loop-higher
invariant-loop-higher l =
    any_at (table.is_open l.set l.number) l.set (all_up l.set (supers l.set l.number)) ≡ any_at (table.is_open l.set l.number) l.set (all_up l.set l.walk)

abbrev pub decreases-loop-higher : goal.decreases-loop-higher
decreases-loop-higher l = length l.walk
