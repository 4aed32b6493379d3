use Rattle.std.proofs.Common.{◌≡◌, ◌++◌, drop}
use Rattle.stack_maps.specs.Marks.{table_marks}
use Rattle.stack_maps.proofs.marks.marks_of.Given as goal

abbrev pub invariant-loop-number : goal.invariant-loop-number
invariant-loop-number l = l.marks ++ table_marks l.number (drop l.number l.written) ≡ table_marks 0 l.written
