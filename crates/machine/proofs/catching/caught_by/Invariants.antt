use Rattle.std.proofs.Common.{◌≡◌, drop}
use Rattle.machine.specs.Caught.{caught_by}
use Rattle.machine.proofs.catching.caught_by.Given as goal

abbrev pub invariant-loop-handler : goal.invariant-loop-handler
invariant-loop-handler l = caught_by l.fits l.handlers l.at ≡ caught_by l.fits (drop l.handler-index l.handlers) l.at
