use Rattle.std.proofs.Common.{◌≡◌, drop}
use Rattle.set_lookups.specs.First.{first_from, name_if}
use Rattle.class_set.specs.FinalSuper.{final_super, has_final_super}
use Rattle.class_set.proofs.build.check_final_super.Given as goal

-- the classes from here on decide
abbrev pub invariant-loop-number : goal.invariant-loop-number
invariant-loop-number l = final_super l.set ≡ first_from (name_if (has_final_super l.set)) l.number (drop l.number l.set)
