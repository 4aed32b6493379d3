use Rattle.std.proofs.Common.{◌≡◌, drop}
use Rattle.std.specs.List.{list_any}
use Rattle.set_lookups.proofs.hierarchy.reached.any_passes.Given as goal

-- the classes from here on decide
abbrev pub invariant-loop-number : goal.invariant-loop-number
invariant-loop-number g l = list_any (g.T.ClassTest.passes l.test) l.numbers ≡ list_any (g.T.ClassTest.passes l.test) (drop l.number-index l.numbers)
