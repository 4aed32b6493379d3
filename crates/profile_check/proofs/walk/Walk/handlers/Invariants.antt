use Rattle.std.proofs.Common.{◌≡◌, drop, map}
use Rattle.std.specs.Prelude.{flat_map}
use Rattle.profile_check.specs.First.{first}
use Rattle.profile_check.specs.Mentions.{handler_mentions}
use Rattle.profile_check.specs.Walks.{judge}
use Rattle.profile_check.proofs.walk.Walk.handlers.Given as goal

-- what is left decides
abbrev pub invariant-loop-handler : goal.invariant-loop-handler
invariant-loop-handler l =
    let f = judge l.self.rule l.self.place in
    first f (flat_map handler_mentions l.handlers) ≡ first f (flat_map handler_mentions (drop l.handler-index l.handlers))
