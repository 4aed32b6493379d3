use Rattle.std.proofs.Common.{◌≡◌, drop, map}
use Rattle.std.specs.Prelude.{flat_map}
use Rattle.profile_check.specs.First.{first}
use Rattle.profile_check.specs.Mentions.{vtype_mentions}
use Rattle.profile_check.specs.Walks.{judge}
use Rattle.profile_check.proofs.walk.Walk.vtypes.Given as goal

-- what is left decides
abbrev pub invariant-loop-ty : goal.invariant-loop-ty
invariant-loop-ty l =
    let f = judge l.self.rule l.self.place in
    first f (flat_map vtype_mentions l.types) ≡ first f (flat_map vtype_mentions (drop l.ty-index l.types))
