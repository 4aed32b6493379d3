use Rattle.std.proofs.Common.{◌∙◌, sym, arith, below_more}
use Rattle.std.proofs.lemmas.Bool.{false≢true}
use Rattle.first_form.specs.Naming.{HasAt}
use Rattle.first_form.proofs.Naming.{has_at_within, rest_is}
use Rattle.first_form.proofs.names.has_part.Goals as goal

pub loop-place-preserved : goal.loop-place-preserved
loop-place-preserved c =
    below_more (λ k. HasAt c.args.part.now c.args.units.now k → ⊥) c.loop-place.place c.loop-place.invariant
    (λ is. false≢true (sym c.if-begins.false ∙ c.begins.ensures.1 (is.0, rest_is c.args.units.now c.loop-place.place ∙ is.1)))

pub returns : goal.returns
returns c = (
  λ said. absurd (false≢true said),
  λ is. absurd (c.loop-place.invariant is.0 (omega (arith, has_at_within c.args.part.now c.args.units.now is.0 c.requires is.1)) is.1),
)
