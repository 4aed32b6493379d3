use Rattle.std.proofs.Common.{◌∙◌, ap, subst, length}
use Rattle.set_lookups.specs.Above.{above}
use Rattle.set_lookups.specs.Levels.{IsAbove, any_levels, list_at}
use Rattle.set_lookups.specs.Lookups as look
use Rattle.set_lookups.proofs.AnyLevels.{levels_once, levels_meet}
use Rattle.set_lookups.proofs.hierarchy.Hierarchy.any_reached.Goals as goal

pub returns : goal.returns
returns g c =
    let set = c.args.self.now in
    let f = g.T.ClassTest.passes c.args.test.now in
    let up = above set in
    let all = subst (λ set. IsAbove (look.interfaces_at set) (above set) c.index-index.result.now.reached.levels c.index-index.result.now.reached.starts) c.index-index.ensures.shown c.index-index.ensures.holds.in_reach in
    c.any_above.ensures up all.levels ∙ ap (λ n. any_levels n up f (list_at c.index-index.result.now.reached.levels c.start-start.result)) c.len.ensures
    ∙ ap (any_levels (length set) up f) (ap (list_at c.index-index.result.now.reached.levels) c.start-start.ensures ∙ all.starts c.args.at) ∙ levels_once (length set) up f (look.interfaces_at set c.args.at)
    ∙ levels_meet (length set) set f (look.interfaces_at set c.args.at)
