use Rattle.std.proofs.Common.{◌≡◌, ◌++◌, map, take}
use Rattle.std.specs.Prelude.{option_to_list}
use Rattle.set_lookups.proofs.links.above_lists.Given as goal

-- the lists so far
abbrev pub invariant-loop-row : goal.invariant-loop-row
invariant-loop-row l = l.lists ≡ map (λ row. option_to_list row.superclass ++ row.interfaces) (take l.row-index l.rows)
