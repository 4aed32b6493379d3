use Rattle.std.proofs.Common.{◌≡◌, drop}
use Rattle.std.specs.Prelude.{flat_map}
use Rattle.set_lookups.specs.Levels.{once, edge}
use Rattle.set_lookups.proofs.level_build.add_above.Given as goal

-- what is above the classes from here on is to be put behind
abbrev pub invariant-loop-number : goal.invariant-loop-number
invariant-loop-number l = once l.initial.numbers.keys (flat_map (edge l.edges) l.list) ≡ once l.numbers.keys (flat_map (edge l.edges) (drop l.number-index l.list))
