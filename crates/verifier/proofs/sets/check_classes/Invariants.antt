use Rattle.verifier.specs.WholeSet.{AreRows}
use Rattle.verifier.proofs.sets.check_classes.Given as goal

abbrev pub invariant-loop-number : goal.invariant-loop-number
invariant-loop-number l = AreRows l.set l.rows.items l.number
