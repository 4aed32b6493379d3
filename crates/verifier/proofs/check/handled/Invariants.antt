use Rattle.std.proofs.Common.{◌≡◌, drop}
use Rattle.verifier.specs.Check.{handled}
use Rattle.verifier.proofs.check.handled.Given as goal

abbrev pub invariant-loop-handler : goal.invariant-loop-handler
invariant-loop-handler l =
    handled l.method l.at l.types (drop l.handler-index l.handler-items) ≡ handled l.method l.at l.types l.method.code.handlers
