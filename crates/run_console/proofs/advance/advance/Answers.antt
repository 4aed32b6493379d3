use Rattle.std.proofs.Common.{arith}
use Rattle.run_console.proofs.Rounds.{told_ended, told_loop, same_then}
use Rattle.run_console.proofs.advance.advance.Goals as goal

pub returns-then-more-eq0-clause-ok : goal.returns-then-more-eq0-clause-ok
returns-then-more-eq0-clause-ok g c =
    told_ended c.args.run.now c.loop-made.run c.go_on.new.run c.loop-made.made c.in_ok-more.more c.args.steps
    (g.I.ByteSource.left c.args.input.now) (g.I.ByteSource.left c.loop-made.input) (g.I.ByteSource.left c.go_on.new.input)
    c.loop-made.invariant.few c.if-more-eq0.true c.loop-made.invariant.ran c.in_ok-more.ensures.ok

pub loop-made-preserved : goal.loop-made-preserved
loop-made-preserved g c = record {
  few = omega (arith, c.in_ok-more.ensures.few);
  ran = told_loop c.args.run.now c.loop-made.run c.go_on.new.run c.loop-made.made c.in_ok-more.more
      (g.I.ByteSource.left c.args.input.now) (g.I.ByteSource.left c.loop-made.input) (g.I.ByteSource.left c.go_on.new.input)
      c.loop-made.invariant.ran c.in_ok-more.ensures.ok;
  same = same_then c.args.run.now c.loop-made.run c.go_on.new.run c.loop-made.invariant.same c.go_on.ensures.same;
  count = omega (arith, c.go_on.ensures.count);
}
