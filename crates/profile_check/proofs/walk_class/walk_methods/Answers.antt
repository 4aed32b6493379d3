use Rattle.std.proofs.Common.{◌+◌, arith}
use Rattle.profile_check.specs.First.{first, flat_from}
use Rattle.profile_check.specs.Mentions.{method_mentions}
use Rattle.profile_check.specs.Walks.{judge_placed}
use Rattle.profile_check.proofs.First.{tells_err, numbered_more, numbered_refused, numbered_done, first_from_nil, first_from_cons}
use Rattle.profile_check.proofs.walk_class.walk_methods.Goals as goal

pub loop-k-preserved : goal.loop-k-preserved
loop-k-preserved c =
    let f = judge_placed c.args.rule in
    numbered_more (λ at xs. first f (flat_from method_mentions at xs)) _ c.args.methods.now c.loop-k.k (c.args.fields + c.loop-k.k) _ c.index-methods-k.result _ c.loop-k-test.true c.index-methods-k.is (omega arith) (first_from_cons f method_mentions (c.args.fields + c.loop-k.k) c.index-methods-k.result) c.loop-k.invariant (c.in_ok-walk_method.ensures)

pub returns-in_err-walk_method : goal.returns-in_err-walk_method
returns-in_err-walk_method c =
    let f = judge_placed c.args.rule in
    tells_err c.from_residual.result _ _ c.from_residual.ensures.1 (numbered_refused (λ at xs. first f (flat_from method_mentions at xs)) _ c.args.methods.now c.loop-k.k (c.args.fields + c.loop-k.k) c.index-methods-k.result _ _ c.loop-k-test.true c.index-methods-k.is (first_from_cons f method_mentions (c.args.fields + c.loop-k.k) c.index-methods-k.result) c.loop-k.invariant (c.in_err-walk_method.ensures))

pub returns : goal.returns
returns c =
    let f = judge_placed c.args.rule in
    numbered_done (λ at xs. first f (flat_from method_mentions at xs)) _ c.args.methods.now c.loop-k.k (c.args.fields + c.loop-k.k) c.loop-k-test.false c.loop-k.invariant (first_from_nil f method_mentions (c.args.fields + c.loop-k.k))
