use Rattle.std.proofs.Common.{◌∙◌, sym, subst}
use Rattle.set_lookups.specs.Lookups as look
use Rattle.set_lookups.specs.Wanted.{passes}
use Rattle.set_lookups.specs.Rows.{Ranked}
use Rattle.set_lookups.proofs.Index.{at_top, found_here, found_above, shorter}
use Rattle.set_lookups.proofs.hierarchy.Hierarchy.find_up.Goals as goal

pub returns-in-Some : goal.returns-in-Some
returns-in-Some c =
    let ranked = subst (λ set. Ranked set c.self.inside.parts.value.ranks) c.self.view_is c.self.invariant.ranked in
    let declared = look.declared c.args.self.now c.args.name.now c.args.desc.now (passes c.args.wanted) in
    sym (c.loop-found.invariant ∙ found_here declared _ _ _ _ ranked (sym c.in-Some.ensures))

pub loop-found-smaller : goal.loop-found-smaller
loop-found-smaller c =
    let ranked = subst (λ set. Ranked set c.self.inside.parts.value.ranks) c.self.view_is c.self.invariant.ranked in
    shorter _ _ _ _ ranked c.in-Some-superclass.ensures

pub loop-found-preserved : goal.loop-found-preserved
loop-found-preserved c =
    let ranked = subst (λ set. Ranked set c.self.inside.parts.value.ranks) c.self.view_is c.self.invariant.ranked in
    let declared = look.declared c.args.self.now c.args.name.now c.args.desc.now (passes c.args.wanted) in
    c.loop-found.invariant ∙ found_above declared _ _ _ _ ranked (sym c.in_default.ensures) c.in-Some-superclass.ensures

pub returns-in-None : goal.returns-in-None
returns-in-None c =
    let ranked = subst (λ set. Ranked set c.self.inside.parts.value.ranks) c.self.view_is c.self.invariant.ranked in
    let declared = look.declared c.args.self.now c.args.name.now c.args.desc.now (passes c.args.wanted) in
    sym (c.loop-found.invariant ∙ at_top declared _ _ _ ranked c.in-None.ensures ∙ sym c.in_default.ensures)
