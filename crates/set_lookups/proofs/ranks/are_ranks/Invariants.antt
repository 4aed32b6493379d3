use Rattle.std.proofs.Common.{ℕ, ◌<◌}
use Rattle.set_lookups.specs.Ranking.{PlaceRanked}
use Rattle.set_lookups.proofs.ranks.are_ranks.Given as goal

abbrev pub invariant-loop-at : goal.invariant-loop-at
invariant-loop-at l = (k : ℕ) → k < l.at → PlaceRanked l.rows l.ranks k
