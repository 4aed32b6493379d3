use Rattle.std.proofs.Common.{◌∙◌, ap, subst, length}
use Rattle.set_lookups.specs.Levels.{IsAbove, any_levels, list_at}
use Rattle.set_lookups.specs.Lookups as look
use Rattle.set_lookups.proofs.AnyLevels.{levels_once, levels_list}
use Rattle.set_lookups.proofs.hierarchy.Hierarchy.any_superinterface.Goals as goal

pub returns : goal.returns
returns g c =
    let set = c.args.self.now in
    let f = g.T.ClassTest.passes c.args.test.now in
    let up = look.interfaces_at set in
    let above = subst (λ set. IsAbove (look.interfaces_at set) (look.interfaces_at set) c.index-index.result.now.breadth.levels c.index-index.result.now.breadth.starts) c.index-index.ensures.shown c.index-index.ensures.holds.in_breadth in
    c.any_above.ensures up above.levels ∙ ap (λ n. any_levels n up f (list_at c.index-index.result.now.breadth.levels c.start-start.result)) c.len.ensures
    ∙ ap (any_levels (length set) up f) (ap (list_at c.index-index.result.now.breadth.levels) c.start-start.ensures ∙ above.starts c.args.at) ∙ levels_once (length set) up f (up c.args.at)
    ∙ levels_list (length set) set f (up c.args.at)
