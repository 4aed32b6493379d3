use Rattle.std.proofs.Common.{◌≡◌, length}
use Rattle.class_set.specs.FinalSuper.{classes_above}
use Rattle.class_set.specs.Open as table
use Rattle.class_set.proofs.open.any_open_below.Given as goal

-- the superclasses from here on decide
abbrev pub invariant-loop-higher : goal.invariant-loop-higher
invariant-loop-higher l = table.open_below l.set l.number (classes_above l.set l.number) ≡ table.open_below l.set l.number l.walk

abbrev pub decreases-loop-higher : goal.decreases-loop-higher
decreases-loop-higher l = length l.walk
