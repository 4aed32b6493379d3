use Rattle.class_limits.specs.Lengths.{frame_length}
use Rattle.class_limits.proofs.LengthLaws.{SumTo}
use Rattle.class_limits.proofs.lengths.frames_sum.Given as goal

abbrev pub invariant-loop-row : goal.invariant-loop-row
invariant-loop-row l = SumTo frame_length l.rows l.row-index l.length
