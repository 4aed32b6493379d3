use Rattle.verifier.specs.WholeSet.{IsRow}
use Rattle.verifier.proofs.sets.check_class.Given as goal

abbrev pub invariant-loop-index : goal.invariant-loop-index
invariant-loop-index l = IsRow l.set l.number l.class l.row l.index
