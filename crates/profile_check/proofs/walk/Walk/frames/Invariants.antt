use Rattle.std.proofs.Common.{◌≡◌, drop, map}
use Rattle.std.specs.Prelude.{flat_map}
use Rattle.profile_check.specs.First.{first}
use Rattle.profile_check.specs.Mentions.{frame_mentions}
use Rattle.profile_check.specs.Walks.{judge}
use Rattle.profile_check.proofs.walk.Walk.frames.Given as goal

-- what is left decides
abbrev pub invariant-loop-row : goal.invariant-loop-row
invariant-loop-row l =
    let f = judge l.self.rule l.self.place in
    first f (flat_map frame_mentions l.frames) ≡ first f (flat_map frame_mentions (drop l.row-index l.frames))
