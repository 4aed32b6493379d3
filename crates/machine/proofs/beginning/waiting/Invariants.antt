use Rattle.std.proofs.Common.{◌≡◌, ◌++◌, drop}
use Rattle.machine.specs.Beginning.{waiting}
use Rattle.machine.proofs.beginning.waiting.Given as goal

abbrev pub invariant-loop-number : goal.invariant-loop-number
invariant-loop-number g l = l.waiting ++ waiting l.program l.begun (drop l.number-index l.starts) ≡ waiting l.program l.begun l.starts
