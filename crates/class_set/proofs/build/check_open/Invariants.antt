use Rattle.std.proofs.Common.{◌≡◌, drop}
use Rattle.set_lookups.specs.First.{first_from, name_if}
use Rattle.class_set.specs.Open.{abstract_left, leaves_open}
use Rattle.class_set.proofs.build.check_open.Given as goal

-- the classes from here on decide
abbrev pub invariant-loop-number : goal.invariant-loop-number
invariant-loop-number l = abstract_left l.set ≡ first_from (name_if (leaves_open l.set)) l.number (drop l.number l.set)
