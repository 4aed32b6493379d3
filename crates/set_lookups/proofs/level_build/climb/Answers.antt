use Rattle.std.proofs.Common.{◌∙◌, [], sym, ap, subst}
use Rattle.std.specs.Prelude.{flat_map}
use Rattle.set_lookups.specs.Levels.{once, edge, Climbs}
use Rattle.set_lookups.proofs.Placing.{climbs_more, climbs_on}
use Rattle.set_lookups.proofs.level_build.climb.Goals as goal

pub returns-in-Some : goal.returns-in-Some
returns-in-Some c =
    let found = c.in-Some.ensures.found in
    (found.0, subst (λ list. Climbs (edge c.args.edges.now) c.args.start c.loop-end.lists.items list) (sym found.1) c.loop-end.invariant)

pub loop-end-smaller : goal.loop-end-smaller
loop-end-smaller c =
    let is = c.in_ok-above.ensures ∙ ap (λ xs. once [] (flat_map (edge c.args.edges.now) xs)) c.as_slice.ensures in
    climbs_on c.args.edges.now c.args.ranks.now c.loop-end.list c.in_ok-above.above c.requires.falls c.in_default.ensures.absent is

pub loop-end-preserved : goal.loop-end-preserved
loop-end-preserved c =
    let up = edge c.args.edges.now in
    let is = c.in_ok-above.ensures ∙ ap (λ xs. once [] (flat_map up xs)) c.as_slice.ensures in
    let more = climbs_more up c.args.start c.loop-end.lists.items c.loop-end.list c.in_ok-above.above c.loop-end.invariant is in
    subst (λ lists. Climbs up c.args.start lists c.in_ok-above.above) (sym c.in_ok-push.ensures.items) more
