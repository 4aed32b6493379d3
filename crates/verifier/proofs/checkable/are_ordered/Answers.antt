use Rattle.std.proofs.Common.{refl, arith}
use Rattle.verifier.proofs.Ordered.{ordered}
use Rattle.verifier.proofs.checkable.are_ordered.Goals as goal

pub returns : goal.returns
returns c = (λ t. ordered c.args.frames.now (λ k d l. c.loop-i.invariant k d (omega (arith, c.loop-i-test.false))), λ up. refl)
