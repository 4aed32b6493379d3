use Rattle.std.proofs.Common.{◌≡◌, take, map}
use Rattle.small_base.specs.Rows.{class_of}
use Rattle.small_base.proofs.base.classes_of.Given as goal

-- the classes so far are those of the rows so far
abbrev pub invariant-loop-row : goal.invariant-loop-row
invariant-loop-row l = l.classes.items ≡ map class_of (take l.row-index l.table)
