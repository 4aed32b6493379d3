use Rattle.set_lookups.specs.Levels.{edge, IsLevels}
use Rattle.set_lookups.proofs.Placing.{Started}
use Rattle.set_lookups.proofs.level_build.link_levels.Given as goal

-- the classes so far have their first lists
abbrev pub invariant-loop-first : goal.invariant-loop-first
invariant-loop-first l = record {
  levels : IsLevels (edge l.edges) l.levels;
  started : Started (edge l.firsts) l.levels l.starts l.first-index;
}
