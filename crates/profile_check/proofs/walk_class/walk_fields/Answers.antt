use Rattle.std.proofs.Common.{◌+◌, arith}
use Rattle.profile_check.specs.First.{first, flat_from}
use Rattle.profile_check.specs.Mentions.{field_placed}
use Rattle.profile_check.specs.Walks.{judge_placed}
use Rattle.profile_check.proofs.First.{tells_err, numbered_more, numbered_refused, numbered_done, first_from_nil, first_from_cons, none_walked, refuses_walked}
use Rattle.profile_check.proofs.walk_class.walk_fields.Goals as goal

pub loop-k-preserved : goal.loop-k-preserved
loop-k-preserved c =
    let f = judge_placed c.args.rule in
    numbered_more (λ at xs. first f (flat_from field_placed at xs)) _ c.args.fields.now c.loop-k.k c.loop-k.k _ c.index-fields-k.result _ c.loop-k-test.true c.index-fields-k.is (omega arith) (first_from_cons f field_placed c.loop-k.k c.index-fields-k.result) c.loop-k.invariant (none_walked c.args.rule _ c.in_member.result _ c.in_member.ensures c.in_ok-field.ensures)

pub returns-in_err-field : goal.returns-in_err-field
returns-in_err-field c =
    let f = judge_placed c.args.rule in
    tells_err c.from_residual.result _ _ c.from_residual.ensures.1 (numbered_refused (λ at xs. first f (flat_from field_placed at xs)) _ c.args.fields.now c.loop-k.k c.loop-k.k c.index-fields-k.result _ _ c.loop-k-test.true c.index-fields-k.is (first_from_cons f field_placed c.loop-k.k c.index-fields-k.result) c.loop-k.invariant (refuses_walked c.args.rule _ c.in_member.result _ _ c.in_member.ensures c.in_err-field.ensures))

pub returns : goal.returns
returns c =
    let f = judge_placed c.args.rule in
    numbered_done (λ at xs. first f (flat_from field_placed at xs)) _ c.args.fields.now c.loop-k.k c.loop-k.k c.loop-k-test.false c.loop-k.invariant (first_from_nil f field_placed c.loop-k.k)
