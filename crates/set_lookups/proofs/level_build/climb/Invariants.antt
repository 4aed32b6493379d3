use Rattle.set_lookups.specs.Levels.{edge, Climbs}
use Rattle.set_lookups.proofs.Placing.{top}
use Rattle.set_lookups.proofs.level_build.climb.Given as goal

-- the lists so far lead to this one
abbrev pub invariant-loop-end : goal.invariant-loop-end
invariant-loop-end l = Climbs (edge l.edges) l.fn.start l.lists.items l.list

abbrev pub decreases-loop-end : goal.decreases-loop-end
decreases-loop-end l = top l.ranks l.list
