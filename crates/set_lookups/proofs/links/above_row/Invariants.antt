use Rattle.std.proofs.Common.{◌≡◌, ◌++◌, take}
use Rattle.std.specs.Prelude.{option_to_list}
use Rattle.set_lookups.proofs.links.above_row.Given as goal

-- the superclass, then the interfaces so far
abbrev pub invariant-loop-number : goal.invariant-loop-number
invariant-loop-number l = l.list ≡ option_to_list l.row.superclass ++ take l.number-index l.number-items
