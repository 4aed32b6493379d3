use Rattle.std.proofs.Common.{◌≡◌, drop}
use Rattle.set_lookups.specs.First.{first}
use Rattle.set_lookups.specs.Lookups as look
use Rattle.set_lookups.proofs.hierarchy.Hierarchy.find_in_each.Given as goal

-- the classes from here on decide
abbrev pub invariant-loop-number : goal.invariant-loop-number
invariant-loop-number l =
    let declared = look.declared l.self l.name l.desc look.any_method in
    first declared l.numbers ≡ first declared (drop l.number-index l.numbers)
