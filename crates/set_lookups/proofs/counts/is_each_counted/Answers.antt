use Rattle.std.proofs.Common.{◌∙◌, below_more, subst, arith, refl, sym}
use Rattle.std.proofs.lemmas.Bool.{false≢true}
use Rattle.std.proofs.lemmas.List.{get_or_default}
use Rattle.set_lookups.specs.Counts.{IsCounted}
use Rattle.set_lookups.proofs.counts.is_each_counted.Goals as goal

pub loop-class-preserved : goal.loop-class-preserved
loop-class-preserved c =
    below_more _ _ c.loop-class.invariant
    (λ d. subst IsCounted (c.class-item.is ∙ get_or_default c.args.classes.now c.loop-class.class-index c.class-item.result d c.loop-class-test.true) (c.is_counted.ensures.0 c.if-not-is_counted.false))

pub returns-then-not-is_counted : goal.returns-then-not-is_counted
returns-then-not-is_counted c =
    (λ no. absurd (false≢true no), λ each. sym c.if-not-is_counted.true ∙ c.is_counted.ensures.1 (subst IsCounted (sym c.class-item.is) (each c.loop-class.class-index c.class-item.result c.loop-class-test.true)))

pub returns : goal.returns
returns c = (λ _. λ k d lt. c.loop-class.invariant k (omega (arith, lt, c.loop-class-test.false)) d, λ _. refl)
