use Rattle.std.proofs.Common.{◌≡◌, subst, map, None}
use Rattle.std.specs.Prelude.{flat_map}
use Rattle.profile_check.specs.Answer.{Tells, Refuses}
use Rattle.profile_check.specs.First.{first, flat_from}
use Rattle.profile_check.specs.Mentions.{ClassName, insn_placed, handler_mentions, frame_mentions, field_placed, method_mentions, inner_mentions}
use Rattle.profile_check.specs.Walks.{judge, judge_placed}
use Rattle.profile_check.proofs.First.{tells_err, tells_append, refuses_append, tells_walked, none_walked, refuses_walked}
use Rattle.profile_check.proofs.walk_class.walk_method.Goals as goal

pub returns-in_err-method : goal.returns-in_err-method
returns-in_err-method c =
    let f = judge_placed c.args.rule in
    tells_err c.from_residual.result _ _ c.from_residual.ensures.1 (refuses_append f _ _ _ (refuses_walked c.args.rule _ c.in_member-walk.result _ _ c.in_member-walk.ensures c.in_err-method.ensures))

pub returns-in_err-walk_optional_code : goal.returns-in_err-walk_optional_code
returns-in_err-walk_optional_code c =
    let f = judge_placed c.args.rule in
    tells_append f _ _ _ (none_walked c.args.rule _ c.in_member-walk.result _ c.in_member-walk.ensures c.in_ok-method.ensures)
    (tells_err c.from_residual-in_err-walk_optional_code.result _ _ c.from_residual-in_err-walk_optional_code.ensures.1 (refuses_append f _ _ _ c.in_err-walk_optional_code.ensures))

pub returns : goal.returns
returns c =
    let f = judge_placed c.args.rule in
    tells_append f _ _ _ (none_walked c.args.rule _ c.in_member-walk.result _ c.in_member-walk.ensures c.in_ok-method.ensures)
    (tells_append f _ _ _ c.in_ok-walk_optional_code.ensures
    (tells_walked c.args.rule _ c.in_member-walk.result _ _ c.in_member-walk.ensures (subst (λ xs. Tells c.class_names.result (first (judge c.in_member-walk.result.rule c.in_member-walk.result.place) (map ClassName xs))) c.as_slice.ensures c.class_names.ensures)))
