use Rattle.std.proofs.Common.{◌+◌, ◌-◌, refl, arith}
use Rattle.machine.proofs.Steps.{on_any}
use Rattle.machine.proofs.Reaching.{reaches_then, within_then}
use Rattle.machine.proofs.Waiting.{fed_then}
use Rattle.machine.proofs.runs.run.Goals as goal

pub returns-then-more-eq0-clause-ok : goal.returns-then-more-eq0-clause-ok
returns-then-more-eq0-clause-ok g c =
    (c.loop-made.invariant.0, reaches_then g.T.Tag.none_of g.T.Tag.join_of c.args.program.now c.args.closed c.args.machine.now c.loop-made.machine c.go.new.machine c.loop-made.made c.in_ok-more.more c.loop-made.made c.loop-made.invariant.1 c.in_ok-more.ensures.ok.1 (omega arith))

pub loop-made-preserved : goal.loop-made-preserved
loop-made-preserved g c =
    (omega (arith, c.in_ok-more.ensures.ok.0), reaches_then g.T.Tag.none_of g.T.Tag.join_of c.args.program.now c.args.closed c.args.machine.now c.loop-made.machine c.go.new.machine c.loop-made.made c.in_ok-more.more (c.loop-made.made + c.in_ok-more.more) c.loop-made.invariant.1 c.in_ok-more.ensures.ok.1 refl, fed_then c.args.machine.now.fed c.loop-made.machine.fed c.go.new.machine.fed c.loop-made.invariant.2 c.go.ensures.fed)

pub returns-in_err-more-clause-err : goal.returns-in_err-more-clause-err
returns-in_err-more-clause-err g c = on_any c.from_residual.result
    (within_then g.T.Tag.none_of g.T.Tag.join_of c.args.program.now c.args.closed c.args.machine.now c.loop-made.machine c.go.new.machine c.loop-made.made (c.args.steps - c.loop-made.made) c.args.steps c.loop-made.invariant.1 c.in_err-more.ensures.err (omega (arith, c.loop-made.invariant.0)))
