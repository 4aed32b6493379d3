use Rattle.std.proofs.Common.{◌≡◌, drop}
use Rattle.verifier.specs.Check.{branched}
use Rattle.verifier.proofs.check.branch_each.Given as goal

abbrev pub invariant-loop-target : goal.invariant-loop-target
invariant-loop-target l = branched l.method l.types (drop l.target-index l.table) ≡ branched l.method l.types l.table
