use Rattle.std.proofs.Common.{◌∙◌, sym, subst}
use Rattle.set_lookups.specs.Rows.{Ranked}
use Rattle.set_lookups.proofs.Meeting.{subtype_meets}
use Rattle.set_lookups.proofs.Subtypes.{subtype_exact}
use Rattle.set_lookups.proofs.hierarchy.Hierarchy.subtype.Goals as goal

pub returns-clause-value : goal.returns-clause-value
returns-clause-value c = c.meets.ensures ∙ sym (subtype_meets c.args.self.now _ _)

pub returns-clause-exact : goal.returns-clause-exact
returns-clause-exact c =
    let ranked = subst (λ set. Ranked set c.self.inside.parts.value.ranks) c.self.view_is c.self.invariant.ranked in
    subtype_exact _ _ _ _ _ ranked (c.meets.ensures ∙ sym (subtype_meets c.args.self.now _ _))
