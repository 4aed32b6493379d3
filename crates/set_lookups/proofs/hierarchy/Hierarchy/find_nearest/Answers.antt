use Rattle.std.proofs.Common.{◌∙◌, ap, subst, length}
use Rattle.set_lookups.specs.Level.{nearest}
use Rattle.set_lookups.specs.Levels.{IsAbove, list_at}
use Rattle.set_lookups.specs.Lookups as look
use Rattle.set_lookups.proofs.Nearest.{nearest_of_once}
use Rattle.set_lookups.proofs.hierarchy.Hierarchy.find_nearest.Goals as goal

pub returns : goal.returns
returns c =
    let set = c.args.self.now in
    let f = look.declared set c.args.name.now c.args.desc.now look.any_method in
    let above = subst (λ set. IsAbove (look.interfaces_at set) (look.interfaces_at set) c.index-index.result.now.breadth.levels c.index-index.result.now.breadth.starts) c.index-index.ensures.shown c.index-index.ensures.holds.in_breadth in
    c.find_from.ensures (look.interfaces_at set) above.levels
    ∙ ap (nearest (length set) (look.interfaces_at set) f) (ap (list_at c.index-index.result.now.breadth.levels) c.start-start.ensures ∙ above.starts c.args.at) ∙ nearest_of_once (length set) (look.interfaces_at set) f (look.interfaces_at set c.args.at)
