use Rattle.machine.specs.declared.state.Turn.TheVariants as turn
use Rattle.run_console.proofs.Rounds.{told_step}
use Rattle.run_console.proofs.advance.step_on.Goals as goal

pub returns-in-Went-clause-ok : goal.returns-in-Went-clause-ok
returns-in-Went-clause-ok g c = told_step c.args.run.now c.step.new.self c.in_ok-step.field-0 turn.Went (g.I.ByteSource.left c.args.input.now) c.in-Went.is (λ e. cc) c.in_ok-step.ensures.answers
