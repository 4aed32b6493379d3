use Rattle.std.proofs.Common.{◌≡◌, drop}
use Rattle.set_lookups.specs.First.{first_from, name_if}
use Rattle.class_set.specs.Open.{newly_left, leaves_new_open}
use Rattle.class_set.proofs.build.any_new_open.Given as goal

-- the classes from here on decide
abbrev pub invariant-loop-number : goal.invariant-loop-number
invariant-loop-number l = newly_left l.set ≡ first_from (name_if (leaves_new_open l.set)) l.number (drop l.number l.set)
