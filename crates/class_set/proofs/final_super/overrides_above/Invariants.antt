use Rattle.std.proofs.Common.{◌≡◌, length}
use Rattle.std.specs.List.{list_any}
use Rattle.class_set.specs.FinalSuper as table
use Rattle.class_set.proofs.final_super.overrides_above.Given as goal

-- the superclasses from here on decide
abbrev pub invariant-loop-higher : goal.invariant-loop-higher
invariant-loop-higher l =
    list_any (table.is_kept l.method) (table.methods_at l.set (table.classes_above l.set l.number)) ≡ list_any (table.is_kept l.method) (table.methods_at l.set l.walk)

abbrev pub decreases-loop-higher : goal.decreases-loop-higher
decreases-loop-higher l = length l.walk
