use Rattle.verifier.proofs.Typings.{Passed}
use Rattle.verifier.proofs.typed_code.check_code.Given as goal

abbrev pub invariant-loop-i : goal.invariant-loop-i
invariant-loop-i l = Passed l.method l.frames.items l.i l.came
