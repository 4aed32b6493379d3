use Rattle.std.proofs.Common.{ℕ, List, ◌<◌, length}
use Rattle.std.specs.Prelude.{vec_len}
use Rattle.set_lookups.specs.Levels.{edge, list_at, Climbs, IsGrown}
use Rattle.set_lookups.proofs.level_build.add_lists.Given as goal

-- the lists that are left lead to the one that was put last
abbrev pub invariant-loop-list : goal.invariant-loop-list
invariant-loop-list l =
    let up = edge l._edges in
    (start : List ℕ) → Climbs up start l.fn.lists.items (list_at l.initial.levels l.fn.end) → record {
      within : l.at < length l.levels;
      grown : IsGrown up l.initial.levels l.levels;
      leads : Climbs up start l.left.items (list_at l.levels l.at);
    }

abbrev pub decreases-loop-list : goal.decreases-loop-list
decreases-loop-list l = vec_len l.left
