use Rattle.std.proofs.Common.{take, map}
use Rattle.std.specs.List.{Contains}
use Rattle.small_base.specs.Rows.{class_of}
use Rattle.small_base.proofs.base.is_named.Given as goal

-- the name is none of those so far
abbrev pub invariant-loop-row : goal.invariant-loop-row
invariant-loop-row l = Contains (map (λ row. (class_of row).name) (take l.row-index l.table)) l.name → ⊥
