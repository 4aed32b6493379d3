use Rattle.run_console.proofs.Rounds.{told_go}
use Rattle.run_console.proofs.advance.go_on.Goals as goal

pub returns-clause-ok : goal.returns-clause-ok
returns-clause-ok g c =
    told_go c.args.run.now c.step_on.new.run c.run.new.self c.in_ok-first.first c.in_ok-more.more
    (g.I.ByteSource.left c.args.input.now) (g.I.ByteSource.left c.step_on.new.input)
    c.if-first-eq0.false c.in_ok-first.ensures.ok c.in_ok-more.ensures.on.1 c.run.ensures.fed
