use Rattle.std.proofs.Common.{◌≡◌, subst, map, None}
use Rattle.std.specs.Prelude.{flat_map}
use Rattle.profile_check.specs.Answer.{Tells, Refuses}
use Rattle.profile_check.specs.First.{first, flat_from}
use Rattle.profile_check.specs.Mentions.{ClassName, insn_placed, handler_mentions, frame_mentions, field_placed, method_mentions, inner_mentions}
use Rattle.profile_check.specs.Walks.{judge, judge_placed}
use Rattle.profile_check.proofs.First.{tells_err, tells_append, refuses_append, tells_walked, none_walked, refuses_walked}
use Rattle.profile_check.proofs.walk_class.walk_class.Goals as goal

pub returns-in_err-header : goal.returns-in_err-header
returns-in_err-header c =
    let f = judge_placed c.args.rule in
    tells_err c.from_residual.result _ _ c.from_residual.ensures.1 (refuses_append f _ _ _ (refuses_walked c.args.rule _ c.outside-walk.result _ _ c.outside-walk.ensures c.in_err-header.ensures))

pub returns-in_err-walk_fields : goal.returns-in_err-walk_fields
returns-in_err-walk_fields c =
    let f = judge_placed c.args.rule in
    tells_append f _ _ _ (none_walked c.args.rule _ c.outside-walk.result _ c.outside-walk.ensures c.in_ok-header.ensures)
    (tells_err c.from_residual-in_err-walk_fields.result _ _ c.from_residual-in_err-walk_fields.ensures.1 (refuses_append f _ _ _ (subst (λ xs. Refuses c.in_err-walk_fields.field-0.0 (first f (flat_from field_placed 0 xs))) c.as_slice.ensures c.in_err-walk_fields.ensures)))

pub returns-in_err-walk_methods : goal.returns-in_err-walk_methods
returns-in_err-walk_methods c =
    let f = judge_placed c.args.rule in
    tells_append f _ _ _ (none_walked c.args.rule _ c.outside-walk.result _ c.outside-walk.ensures c.in_ok-header.ensures)
    (tells_append f _ _ _ (subst (λ xs. (first f (flat_from field_placed 0 xs)) ≡ None) c.as_slice.ensures c.in_ok-walk_fields.ensures)
    (tells_err c.from_residual-in_err-walk_methods.result _ _ c.from_residual-in_err-walk_methods.ensures.1 (refuses_append f _ _ _ (subst (λ n. Refuses c.in_err-walk_methods.field-0.0 (first f (flat_from method_mentions n c.args.class.now.methods))) c.len.ensures (subst (λ xs. Refuses c.in_err-walk_methods.field-0.0 (first f (flat_from method_mentions c.len.result xs))) c.as_slice-2.ensures c.in_err-walk_methods.ensures)))))

pub returns : goal.returns
returns c =
    let f = judge_placed c.args.rule in
    tells_append f _ _ _ (none_walked c.args.rule _ c.outside-walk.result _ c.outside-walk.ensures c.in_ok-header.ensures)
    (tells_append f _ _ _ (subst (λ xs. (first f (flat_from field_placed 0 xs)) ≡ None) c.as_slice.ensures c.in_ok-walk_fields.ensures)
    (tells_append f _ _ _ (subst (λ n. first f (flat_from method_mentions n c.args.class.now.methods) ≡ None) c.len.ensures (subst (λ xs. (first f (flat_from method_mentions c.len.result xs)) ≡ None) c.as_slice-2.ensures c.in_ok-walk_methods.ensures))
    (tells_walked c.args.rule _ c.outside-walk.result _ _ c.outside-walk.ensures (subst (λ xs. Tells c.inner_rows.result (first (judge c.outside-walk.result.rule c.outside-walk.result.place) (flat_map inner_mentions xs))) c.as_slice-3.ensures c.inner_rows.ensures))))
