use Rattle.std.proofs.Common.{◌≡◌, ◌+◌, drop}
use Rattle.profile_check.specs.First.{first, flat_from}
use Rattle.profile_check.specs.Mentions.{field_placed}
use Rattle.profile_check.specs.Walks.{judge_placed}
use Rattle.profile_check.proofs.walk_class.walk_fields.Given as goal

-- what is left decides
abbrev pub invariant-loop-k : goal.invariant-loop-k
invariant-loop-k l =
    let f = judge_placed l.rule in
    first f (flat_from field_placed 0 l.fields) ≡ first f (flat_from field_placed l.k (drop l.k l.fields))
