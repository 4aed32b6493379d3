use Rattle.std.proofs.Common.{◌∙◌, sym, ap, subst, length}
use Rattle.std.specs.Prelude.{slice_get}
use Rattle.set_lookups.specs.First.{first}
use Rattle.set_lookups.specs.Lookups as look
use Rattle.set_lookups.specs.Rows.{Ranked}
use Rattle.set_lookups.proofs.Meeting.{field_of_interface, field_of_super, first_of_option, direct_from_option}
use Rattle.set_lookups.proofs.Settled.{direct_interface}
use Rattle.set_lookups.proofs.hierarchy.Hierarchy.find_above.Goals as goal

pub returns-in-Some-clause-only : goal.returns-in-Some-clause-only
returns-in-Some-clause-only c = λ none.
    let set = c.args.self.now in
    let f = look.field_from (length set) set c.args.target.now in
    let ranked = subst (λ set. Ranked set c.self.inside.parts.value.ranks) c.self.view_is c.self.invariant.ranked in
    field_of_interface set _ c.args.target.now c.args.at c.in-Some.next ranked none (ap (first f) (sym c.interfaces.ensures) ∙ c.in-Some.ensures.same) c.in-Some.ensures.has

pub returns-in-Some-clause-above : goal.returns-in-Some-clause-above
returns-in-Some-clause-above c =
    let at = c.in-Some.ensures.there in
    direct_interface c.args.self.now c.args.at at.0 c.in-Some.next (ap (λ xs. slice_get xs at.0) (sym c.interfaces.ensures) ∙ at.1)

pub returns-in-None-clause-only : goal.returns-in-None-clause-only
returns-in-None-clause-only c = λ none.
    let set = c.args.self.now in
    let f = look.field_from (length set) set c.args.target.now in
    let ranked = subst (λ set. Ranked set c.self.inside.parts.value.ranks) c.self.view_is c.self.invariant.ranked in
    field_of_super set _ c.args.target.now c.args.at _ ranked none (ap (first f) (sym c.interfaces.ensures) ∙ c.in-None.ensures.none) c.superclass.ensures ∙ first_of_option f c.superclass.result

pub returns-in-None-clause-above : goal.returns-in-None-clause-above
returns-in-None-clause-above c = direct_from_option c.args.self.now c.args.at c.superclass.result c.superclass.ensures
