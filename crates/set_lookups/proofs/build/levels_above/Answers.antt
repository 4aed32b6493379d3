use Rattle.std.proofs.Common.{◌∙◌, ◌++◌, map, ap}
use Rattle.std.specs.Prelude.{option_to_list}
use Rattle.set_lookups.specs.Levels.{edge}
use Rattle.set_lookups.proofs.Linking.{interface_edges, above_edges, interfaces_fall, above_falls, above_as}
use Rattle.set_lookups.proofs.build.levels_above.Goals as goal

pub link_levels-requires : goal.link_levels-requires
link_levels-requires c =
    let made = c.in_ok-interfaces.ensures ∙ ap (map (λ row. row.interfaces)) c.as_slice.ensures in
    let same = interface_edges c.args._classes.now c.args.rows.now c.in_ok-interfaces.interfaces c.requires.rows made in
    interfaces_fall c.args._classes.now c.args.ranks.now _ c.requires.ranked (ap edge c.as_slice-4.ensures ∙ same)

pub link_levels-requires-2 : goal.link_levels-requires-2
link_levels-requires-2 c =
    let made = c.in_ok-edges.ensures ∙ ap (map (λ row. option_to_list row.superclass ++ row.interfaces)) c.as_slice-2.ensures in
    let same = above_edges c.args._classes.now c.args.rows.now c.in_ok-edges.edges c.requires.rows made in
    above_falls c.args._classes.now c.args.ranks.now _ c.requires.ranked (ap edge c.as_slice-6.ensures ∙ same)

pub returns : goal.returns
returns c =
    let set = c.args._classes.now in
    let made = c.in_ok-interfaces.ensures ∙ ap (map (λ row. row.interfaces)) c.as_slice.ensures in
    let same = interface_edges set c.args.rows.now c.in_ok-interfaces.interfaces c.requires.rows made in
    let made_above = c.in_ok-edges.ensures ∙ ap (map (λ row. option_to_list row.superclass ++ row.interfaces)) c.as_slice-2.ensures in
    let same_above = above_edges set c.args.rows.now c.in_ok-edges.edges c.requires.rows made_above in (
      above_as _ _ _ _ _ _ (ap edge c.as_slice-3.ensures ∙ same) (ap edge c.as_slice-4.ensures ∙ same) c.in_ok-breadth.ensures,
      above_as _ _ _ _ _ _ (ap edge c.as_slice-5.ensures ∙ same) (ap edge c.as_slice-6.ensures ∙ same_above) c.in_ok-reached.ensures,
    )
