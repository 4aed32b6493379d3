use Rattle.std.specs.Prelude.{false}
use Rattle.machine.specs.Ran.{Runs}
use Rattle.machine.proofs.frame_runs.run_frame.Given as goal

abbrev pub invariant-loop-steps : goal.invariant-loop-steps
invariant-loop-steps g l = Runs g.T.Tag.none_of g.T.Tag.join_of l.code l.initial.frame l.steps false l.frame
