use Rattle.std.proofs.Common.{◌≤◌, ◌-◌}
use Rattle.plain_machine.specs.Standing.{IsOfSame}
use Rattle.run_console.specs.Runs.{IfTold, Runs}
use Rattle.run_console.proofs.advance.advance.Given as goal

-- the steps so far were made
abbrev pub invariant-loop-made : goal.invariant-loop-made
invariant-loop-made g l = record {
  few : l.made ≤ l.steps;
  ran : IfTold (g.I.ByteSource.left l.fn.input) (g.I.ByteSource.left l.input) (Runs l.fn.run l.run l.made);
  same : IsOfSame l.fn.run l.run;
  count : g.I.ByteSource.faults l.fn.input ≤ g.I.ByteSource.faults l.input;
}

abbrev pub decreases-loop-made : goal.decreases-loop-made
decreases-loop-made g l = l.steps - l.made
