use Rattle.std.proofs.Common.{◌≡◌, length}
use Rattle.set_lookups.specs.First.{first}
use Rattle.set_lookups.specs.Lookups as look
use Rattle.set_lookups.specs.Wanted.{passes}
use Rattle.set_lookups.proofs.hierarchy.Hierarchy.find_up.Given as goal

-- what is found from here on is what is found from the start on
abbrev pub invariant-loop-found : goal.invariant-loop-found
invariant-loop-found l =
    let declared = look.declared l.self l.name l.desc (passes l.wanted) in
    first declared (look.supers l.self l.start) ≡ first declared (look.supers l.self l.at)

abbrev pub decreases-loop-found : goal.decreases-loop-found
decreases-loop-found l = length (look.supers l.self l.at)
