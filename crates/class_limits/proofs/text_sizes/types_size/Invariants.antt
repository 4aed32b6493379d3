use Rattle.class_limits.proofs.TextSizes.{TypesTo}
use Rattle.class_limits.proofs.text_sizes.types_size.Given as goal

abbrev pub invariant-loop-ty : goal.invariant-loop-ty
invariant-loop-ty l = TypesTo l.types l.ty-index l.bytes
