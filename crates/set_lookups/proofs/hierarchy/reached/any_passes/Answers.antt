use Rattle.std.proofs.Common.{◌∙◌, sym}
use Rattle.set_lookups.proofs.Steps.{any_found, any_passed, any_over}
use Rattle.set_lookups.proofs.hierarchy.reached.any_passes.Goals as goal

pub loop-number-preserved : goal.loop-number-preserved
loop-number-preserved g c =
    c.loop-number.invariant ∙ any_passed (g.T.ClassTest.passes c.args.test.now) c.args.numbers.now c.loop-number.number-index c.loop-number-test.true (sym c.passes.ensures ∙ c.if-passes.false)

pub returns-then-passes : goal.returns-then-passes
returns-then-passes g c =
    sym (c.loop-number.invariant ∙ any_found (g.T.ClassTest.passes c.args.test.now) c.args.numbers.now c.loop-number.number-index c.loop-number-test.true (sym c.passes.ensures ∙ c.if-passes.true))

pub returns : goal.returns
returns g c = sym (c.loop-number.invariant ∙ any_over (g.T.ClassTest.passes c.args.test.now) c.args.numbers.now c.loop-number.number-index c.loop-number-test.false)
