use Rattle.std.proofs.Common.{◌≡◌, drop, length}
use Rattle.set_lookups.specs.First.{first}
use Rattle.set_lookups.specs.Lookups as look
use Rattle.set_lookups.proofs.hierarchy.Hierarchy.find_owner.Given as goal

-- the classes from here on decide
abbrev pub invariant-loop-number : goal.invariant-loop-number
invariant-loop-number l =
    let field = look.field_from (length l.self) l.self l.target in
    first field l.numbers ≡ first field (drop l.number-index l.numbers)
