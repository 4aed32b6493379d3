use Rattle.std.proofs.Common.{◌≡◌, take, map}
use Rattle.small_base.specs.Rows.{class_of}
use Rattle.small_base.proofs.base.are_rows.Given as goal

-- the classes so far are those of the rows so far
abbrev pub invariant-loop-at : goal.invariant-loop-at
invariant-loop-at l = take l.at l.classes ≡ map class_of (take l.at l.table)
