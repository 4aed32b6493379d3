use Rattle.verifier.proofs.Ordered.{OrderedBelow}
use Rattle.verifier.proofs.checkable.are_ordered.Given as goal

abbrev pub invariant-loop-i : goal.invariant-loop-i
invariant-loop-i l = OrderedBelow l.frames l.i
