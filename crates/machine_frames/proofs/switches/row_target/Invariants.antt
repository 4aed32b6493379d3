use Rattle.std.proofs.Common.{◌≡◌, drop}
use Rattle.run_state.specs.Step.{row_target}
use Rattle.machine_frames.proofs.switches.row_target.Given as goal

abbrev pub invariant-loop-row : goal.invariant-loop-row
invariant-loop-row l = row_target l.rows l.default l.v ≡ row_target (drop l.row-index l.rows) l.default l.v
