use Rattle.class_limits.specs.Limits.{first, codes_in, far_in_code}
use Rattle.class_limits.proofs.First.{NoneYet}
use Rattle.class_limits.proofs.branches.far_in_methods.Given as goal

abbrev pub invariant-loop-method : goal.invariant-loop-method
invariant-loop-method l = NoneYet (λ method. first far_in_code (codes_in method)) l.methods l.method-index
