use Rattle.std.proofs.Common.{◌+◌, refl, arith}
use Rattle.machine.proofs.Reaching.{reaches_went, reaches_waiting, reaches_ended}
use Rattle.machine.proofs.Waiting.{fed_of}
use Rattle.machine.proofs.runs.go.Goals as goal

pub returns-in-Went-clause-ok : goal.returns-in-Went-clause-ok
returns-in-Went-clause-ok g c =
    (omega (arith, c.in_ok-made.ensures.ok.0), reaches_went g.T.Tag.none_of g.T.Tag.join_of c.args.program.now c.args.closed c.args.machine.now c.run_top.new.machine c.step.new.machine c.in_ok-made.made (c.in_ok-made.made + 1) c.in_ok-turn.turn c.in_ok-made.ensures.ok.1 c.in_ok-turn.ensures.ok c.in-Went.is refl)

pub returns-in-Wants-clause-ok : goal.returns-in-Wants-clause-ok
returns-in-Wants-clause-ok g c =
    (c.in_ok-made.ensures.ok.0, reaches_waiting g.T.Tag.none_of g.T.Tag.join_of c.args.program.now c.args.closed c.args.machine.now c.run_top.new.machine c.step.new.machine c.in_ok-made.made c.in_ok-turn.turn c.in_ok-made.ensures.ok.1 c.in_ok-turn.ensures.ok c.in-Wants.is)

pub returns-in-Ended-clause-ok : goal.returns-in-Ended-clause-ok
returns-in-Ended-clause-ok g c =
    (c.in_ok-made.ensures.ok.0, reaches_ended g.T.Tag.none_of g.T.Tag.join_of c.args.program.now c.args.closed c.args.machine.now c.run_top.new.machine c.step.new.machine c.in_ok-made.made c.in_ok-turn.turn c.in_ok-made.ensures.ok.1 c.in_ok-turn.ensures.ok c.in-Ended.is)

pub returns-in-Went-clause-fed : goal.returns-in-Went-clause-fed
returns-in-Went-clause-fed g c = fed_of c.args.closed c.args.machine.now.fed c.run_top.new.machine c.step.new.machine c.in_ok-turn.turn c.run_top.ensures.fed c.in_ok-turn.ensures.rests

pub returns-in-Wants-clause-fed : goal.returns-in-Wants-clause-fed
returns-in-Wants-clause-fed g c = fed_of c.args.closed c.args.machine.now.fed c.run_top.new.machine c.step.new.machine c.in_ok-turn.turn c.run_top.ensures.fed c.in_ok-turn.ensures.rests

pub returns-in-Ended-clause-fed : goal.returns-in-Ended-clause-fed
returns-in-Ended-clause-fed g c = fed_of c.args.closed c.args.machine.now.fed c.run_top.new.machine c.step.new.machine c.in_ok-turn.turn c.run_top.ensures.fed c.in_ok-turn.ensures.rests
