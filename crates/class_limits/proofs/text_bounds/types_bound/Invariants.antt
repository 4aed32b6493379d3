use Rattle.class_limits.proofs.TextSizes.{TypesUnder}
use Rattle.class_limits.proofs.text_bounds.types_bound.Given as goal

abbrev pub invariant-loop-ty : goal.invariant-loop-ty
invariant-loop-ty l = TypesUnder l.types l.ty-index l.bound
