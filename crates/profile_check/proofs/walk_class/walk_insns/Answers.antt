use Rattle.std.proofs.Common.{◌+◌, arith}
use Rattle.profile_check.specs.First.{first, flat_from}
use Rattle.profile_check.specs.Mentions.{insn_placed}
use Rattle.profile_check.specs.Walks.{judge_placed}
use Rattle.profile_check.proofs.First.{tells_err, numbered_more, numbered_refused, numbered_done, first_from_nil, first_from_cons, none_walked, refuses_walked}
use Rattle.profile_check.proofs.walk_class.walk_insns.Goals as goal

pub loop-at-preserved : goal.loop-at-preserved
loop-at-preserved c =
    let f = judge_placed c.args.rule in
    numbered_more (λ at xs. first f (flat_from (insn_placed c.args.member) at xs)) _ c.args.insns.now c.loop-at.at c.loop-at.at _ c.index-insns-at.result _ c.loop-at-test.true c.index-insns-at.is (omega arith) (first_from_cons f (insn_placed c.args.member) c.loop-at.at c.index-insns-at.result) c.loop-at.invariant (none_walked c.args.rule _ c.in_insn.result _ c.in_insn.ensures c.in_ok-insn.ensures)

pub returns-in_err-insn : goal.returns-in_err-insn
returns-in_err-insn c =
    let f = judge_placed c.args.rule in
    tells_err c.from_residual.result _ _ c.from_residual.ensures.1 (numbered_refused (λ at xs. first f (flat_from (insn_placed c.args.member) at xs)) _ c.args.insns.now c.loop-at.at c.loop-at.at c.index-insns-at.result _ _ c.loop-at-test.true c.index-insns-at.is (first_from_cons f (insn_placed c.args.member) c.loop-at.at c.index-insns-at.result) c.loop-at.invariant (refuses_walked c.args.rule _ c.in_insn.result _ _ c.in_insn.ensures c.in_err-insn.ensures))

pub returns : goal.returns
returns c =
    let f = judge_placed c.args.rule in
    numbered_done (λ at xs. first f (flat_from (insn_placed c.args.member) at xs)) _ c.args.insns.now c.loop-at.at c.loop-at.at c.loop-at-test.false c.loop-at.invariant (first_from_nil f (insn_placed c.args.member) c.loop-at.at)
