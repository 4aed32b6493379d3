use Rattle.std.proofs.Common.{◌∙◌, sym, subst}
use Rattle.set_lookups.specs.Rows.{Ranked}
use Rattle.set_lookups.proofs.Index.{shorter}
use Rattle.set_lookups.proofs.Meeting.{meets_itself, meets_interface, meets_higher, meets_next}
use Rattle.set_lookups.proofs.hierarchy.Hierarchy.meets.Goals as goal

pub returns-then-passes : goal.returns-then-passes
returns-then-passes g c =
    let ranked = subst (λ set. Ranked set c.self.inside.parts.value.ranks) c.self.view_is c.self.invariant.ranked in
    sym (c.loop-start.invariant ∙ meets_itself c.args.self.now _ (g.T.ClassTest.passes c.args.test.now) c.loop-start.at ranked (sym c.passes.ensures ∙ c.if-passes.true))

pub returns-then-any_reached : goal.returns-then-any_reached
returns-then-any_reached g c =
    let ranked = subst (λ set. Ranked set c.self.inside.parts.value.ranks) c.self.view_is c.self.invariant.ranked in
    sym (c.loop-start.invariant ∙ meets_interface c.args.self.now _ (g.T.ClassTest.passes c.args.test.now) c.loop-start.at ranked (sym c.any_reached.ensures ∙ c.if-any_reached.true))

pub loop-start-smaller : goal.loop-start-smaller
loop-start-smaller g c =
    let ranked = subst (λ set. Ranked set c.self.inside.parts.value.ranks) c.self.view_is c.self.invariant.ranked in
    shorter _ _ _ _ ranked c.in-Some.ensures

pub loop-start-preserved : goal.loop-start-preserved
loop-start-preserved g c =
    let ranked = subst (λ set. Ranked set c.self.inside.parts.value.ranks) c.self.view_is c.self.invariant.ranked in
    c.loop-start.invariant ∙ meets_next c.args.self.now _ (g.T.ClassTest.passes c.args.test.now) c.loop-start.at c.in-Some.next ranked (sym c.passes.ensures ∙ c.if-passes.false) (sym c.any_reached.ensures ∙ c.if-any_reached.false) c.in-Some.ensures

pub returns-in-None : goal.returns-in-None
returns-in-None g c =
    let ranked = subst (λ set. Ranked set c.self.inside.parts.value.ranks) c.self.view_is c.self.invariant.ranked in
    sym (c.loop-start.invariant ∙ meets_higher c.args.self.now _ (g.T.ClassTest.passes c.args.test.now) c.loop-start.at _ ranked (sym c.passes.ensures ∙ c.if-passes.false) (sym c.any_reached.ensures ∙ c.if-any_reached.false) c.in-None.ensures)
