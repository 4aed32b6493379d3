use Rattle.class_limits.specs.Lengths.{type_length}
use Rattle.class_limits.proofs.LengthLaws.{SumTo}
use Rattle.class_limits.proofs.lengths.types_length.Given as goal

abbrev pub invariant-loop-ty : goal.invariant-loop-ty
invariant-loop-ty l = SumTo type_length l.types l.ty-index l.length
