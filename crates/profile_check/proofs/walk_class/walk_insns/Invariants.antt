use Rattle.std.proofs.Common.{◌≡◌, ◌+◌, drop}
use Rattle.profile_check.specs.First.{first, flat_from}
use Rattle.profile_check.specs.Mentions.{insn_placed}
use Rattle.profile_check.specs.Walks.{judge_placed}
use Rattle.profile_check.proofs.walk_class.walk_insns.Given as goal

-- what is left decides
abbrev pub invariant-loop-at : goal.invariant-loop-at
invariant-loop-at l =
    let f = judge_placed l.rule in
    first f (flat_from (insn_placed l.member) 0 l.insns) ≡ first f (flat_from (insn_placed l.member) l.at (drop l.at l.insns))
