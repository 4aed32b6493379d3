use Rattle.std.proofs.Common.{◌≡◌, drop, map}
use Rattle.std.specs.Prelude.{flat_map}
use Rattle.profile_check.specs.First.{first}
use Rattle.profile_check.specs.Mentions.{inner_mentions}
use Rattle.profile_check.specs.Walks.{judge}
use Rattle.profile_check.proofs.walk.Walk.inner_rows.Given as goal

-- what is left decides
abbrev pub invariant-loop-row : goal.invariant-loop-row
invariant-loop-row l =
    let f = judge l.self.rule l.self.place in
    first f (flat_map inner_mentions l.rows) ≡ first f (flat_map inner_mentions (drop l.row-index l.rows))
