use Rattle.std.proofs.Common.{Some}
use Rattle.size_limits.specs.Limits.{passed}
use Rattle.size_limits.proofs.First.{NoneYet}
use Rattle.size_limits.proofs.check.first_method.Given as goal

abbrev pub invariant-loop-at : goal.invariant-loop-at
invariant-loop-at g l = NoneYet (λ at method. passed l.kind l.bound (Some at) (g.M.Measure.measure method)) l.methods l.at
