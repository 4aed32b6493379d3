use Rattle.plain_machine.proofs.Steps.{moved, rests_if}
use Rattle.plain_machine.proofs.plain_run.PlainRun.run.Goals as goal

pub returns-clause-rests : goal.returns-clause-rests
returns-clause-rests c = rests_if (moved c.args.self.now c.run.new.machine) c.args.steps c.run.result c.run.ensures.rests
