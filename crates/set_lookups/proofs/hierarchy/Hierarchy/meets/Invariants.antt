use Rattle.std.proofs.Common.{◌≡◌, length}
use Rattle.set_lookups.specs.Lookups as look
use Rattle.set_lookups.specs.Meets.{meets}
use Rattle.set_lookups.proofs.hierarchy.Hierarchy.meets.Given as goal

-- the superclasses from here on decide
abbrev pub invariant-loop-start : goal.invariant-loop-start
invariant-loop-start g l =
    let met = meets (length l.self) l.self (g.T.ClassTest.passes l.test) in
    met l.start ≡ met l.at

abbrev pub decreases-loop-start : goal.decreases-loop-start
decreases-loop-start g l = length (look.supers l.self l.at)
