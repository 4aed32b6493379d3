use Rattle.std.proofs.Common.{◌-◌, ◌≤◌}
use Rattle.machine.specs.Reached.{Reaches}
use Rattle.machine.specs.Turned.{FedOn}
use Rattle.machine.proofs.runs.run.Given as goal

abbrev pub invariant-loop-made : goal.invariant-loop-made
invariant-loop-made g l = (l.made ≤ l.steps) × Reaches g.T.Tag.none_of g.T.Tag.join_of l.program l.closed l.initial.machine l.machine l.made × FedOn l.initial.machine.fed l.machine.fed

abbrev pub decreases-loop-made : goal.decreases-loop-made
decreases-loop-made g l = l.steps - l.made
