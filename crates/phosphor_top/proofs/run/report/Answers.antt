use Rattle.phosphor_top.proofs.RunParts as parts
use Rattle.phosphor_top.proofs.run.report.Goals as goal

pub returns-clause-done : goal.returns-clause-done
returns-clause-done c =
    parts.done_of c.args.set.now c.args.run.now c.ending-ending.result c.reports.result.now c.run_status.result c.in_ok-lines.lines
    c.ending-ending.ensures c.reports.ensures c.run_status.ensures c.in_ok-lines.ensures
