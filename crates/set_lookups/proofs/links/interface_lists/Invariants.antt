use Rattle.std.proofs.Common.{◌≡◌, map, take}
use Rattle.set_lookups.proofs.links.interface_lists.Given as goal

-- the lists so far
abbrev pub invariant-loop-row : goal.invariant-loop-row
invariant-loop-row l = l.lists ≡ map (λ row. row.interfaces) (take l.row-index l.rows)
