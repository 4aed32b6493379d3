use Rattle.std.proofs.Common.{◌∙◌, sym, ap, subst, length}
use Rattle.std.specs.Prelude.{flat_map, option_map}
use Rattle.set_lookups.specs.Level.{closer, nearest}
use Rattle.set_lookups.specs.Lookups as look
use Rattle.set_lookups.specs.Rows.{Ranked}
use Rattle.set_lookups.proofs.Index.{shorter}
use Rattle.set_lookups.proofs.Nearest.{none_closer, nearest_of_next, nearest_of_top, first_of_nearest}
use Rattle.set_lookups.proofs.hierarchy.Hierarchy.find_in_interfaces.Goals as goal

pub loop-next-init : goal.loop-next-init
loop-next-init c = sym (none_closer _)

pub loop-next-smaller : goal.loop-next-smaller
loop-next-smaller c =
    let ranked = subst (λ set. Ranked set c.self.inside.parts.value.ranks) c.self.view_is c.self.invariant.ranked in
    shorter _ _ _ _ ranked c.in-Some.ensures

pub loop-next-preserved : goal.loop-next-preserved
loop-next-preserved c =
    let set = c.args.self.now in
    let f = look.declared set c.args.name.now c.args.desc.now look.any_method in
    let rest = nearest (length set) (look.interfaces_at set) f (flat_map (look.interfaces_at set) (look.supers set c.in-Some.next)) in
    let ranked = subst (λ set. Ranked set c.self.inside.parts.value.ranks) c.self.view_is c.self.invariant.ranked in
    c.loop-next.invariant ∙ nearest_of_next set _ f c.loop-next.best c.find_nearest.result c.loop-next.at c.in-Some.next ranked c.find_nearest.ensures c.in-Some.ensures
    ∙ ap (λ b. closer b rest) (sym c.closer-best.ensures)

pub returns-in-None : goal.returns-in-None
returns-in-None c =
    let set = c.args.self.now in
    let f = look.declared set c.args.name.now c.args.desc.now look.any_method in
    let ranked = subst (λ set. Ranked set c.self.inside.parts.value.ranks) c.self.view_is c.self.invariant.ranked in
    c.found_in.ensures
    ∙ ap (option_map (λ n. n.found)) (c.closer-best.ensures ∙ sym (c.loop-next.invariant ∙ nearest_of_top set _ f c.loop-next.best c.find_nearest.result c.loop-next.at ranked c.find_nearest.ensures c.in-None.ensures))
    ∙ first_of_nearest set f c.args.start
