use Rattle.machine.specs.declared.state.Turn.TheVariants as turn
use Rattle.run_console.proofs.Rounds.{told_read}
use Rattle.run_console.proofs.reading.read_on.Goals as goal

pub returns-in-Went-clause-ok : goal.returns-in-Went-clause-ok
returns-in-Went-clause-ok g c =
    told_read c.args.run.now c.feed.new.self c.step.new.self c.in_ok-byte.byte c.in_ok-step.field-0 turn.Went (g.I.ByteSource.left c.args.input.now) (g.I.ByteSource.left c.take_byte.new.input)
    c.requires c.feed.ensures.feeds c.feed.ensures.fed c.feed.ensures.closed c.feed.ensures.same c.step.ensures.same c.in-Went.is c.in_ok-step.ensures.answers c.in_ok-byte.ensures.gives

pub returns-in-Ended-clause-ok : goal.returns-in-Ended-clause-ok
returns-in-Ended-clause-ok g c =
    told_read c.args.run.now c.feed.new.self c.step.new.self c.in_ok-byte.byte c.in_ok-step.field-0 turn.Ended (g.I.ByteSource.left c.args.input.now) (g.I.ByteSource.left c.take_byte.new.input)
    c.requires c.feed.ensures.feeds c.feed.ensures.fed c.feed.ensures.closed c.feed.ensures.same c.step.ensures.same c.in-Ended.is c.in_ok-step.ensures.answers c.in_ok-byte.ensures.gives
