use Rattle.std.proofs.Common.{◌≡◌, drop}
use Rattle.set_lookups.specs.Levels.{once}
use Rattle.set_lookups.proofs.level_build.add_all.Given as goal

-- the numbers from here on are to be put behind
abbrev pub invariant-loop-number : goal.invariant-loop-number
invariant-loop-number l = once l.initial.numbers.keys l.more ≡ once l.numbers.keys (drop l.number-index l.more)
