use Rattle.std.proofs.Common.{◌∙◌, ◌++◌, map, ap}
use Rattle.std.specs.Prelude.{option_to_list}
use Rattle.set_lookups.specs.Levels.{edge}
use Rattle.set_lookups.proofs.Linking.{above_edges}
use Rattle.set_lookups.proofs.cycles.find_cycle.Goals as goal

pub find_first-requires-clause-above : goal.find_first-requires-clause-above
find_first-requires-clause-above c =
    let made = c.in_ok-edges.ensures ∙ ap (map (λ row. option_to_list row.superclass ++ row.interfaces)) c.as_slice.ensures in
    ap edge c.as_slice-2.ensures ∙ above_edges c.args.classes.now c.args.rows.now c.in_ok-edges.edges c.requires.rows made
