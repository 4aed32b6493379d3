use Rattle.std.proofs.Common.{◌≡◌, subst, map, None}
use Rattle.std.specs.Prelude.{flat_map}
use Rattle.profile_check.specs.Answer.{Tells, Refuses}
use Rattle.profile_check.specs.First.{first, flat_from}
use Rattle.profile_check.specs.Mentions.{ClassName, insn_placed, handler_mentions, frame_mentions, field_placed, method_mentions, inner_mentions}
use Rattle.profile_check.specs.Walks.{judge, judge_placed}
use Rattle.profile_check.proofs.First.{tells_err, tells_append, refuses_append, tells_walked, none_walked, refuses_walked}
use Rattle.profile_check.proofs.walk_class.walk_code.Goals as goal

pub returns-in_err-walk_insns : goal.returns-in_err-walk_insns
returns-in_err-walk_insns c =
    let f = judge_placed c.args.rule in
    tells_err c.from_residual.result _ _ c.from_residual.ensures.1 (refuses_append f _ _ _ (subst (λ xs. Refuses c.in_err-walk_insns.field-0.0 (first f (flat_from (insn_placed c.args.member) 0 xs))) c.as_slice.ensures c.in_err-walk_insns.ensures))

pub returns-in_err-handlers : goal.returns-in_err-handlers
returns-in_err-handlers c =
    let f = judge_placed c.args.rule in
    tells_append f _ _ _ (subst (λ xs. (first f (flat_from (insn_placed c.args.member) 0 xs)) ≡ None) c.as_slice.ensures c.in_ok-walk_insns.ensures)
    (tells_err c.from_residual-in_err-handlers.result _ _ c.from_residual-in_err-handlers.ensures.1 (refuses_append f _ _ _ (refuses_walked c.args.rule _ c.in_member-walk.result _ _ c.in_member-walk.ensures (subst (λ xs. Refuses c.in_err-handlers.field-0.0 (first (judge c.in_member-walk.result.rule c.in_member-walk.result.place) (flat_map handler_mentions xs))) c.as_slice-2.ensures c.in_err-handlers.ensures))))

pub returns : goal.returns
returns c =
    let f = judge_placed c.args.rule in
    tells_append f _ _ _ (subst (λ xs. (first f (flat_from (insn_placed c.args.member) 0 xs)) ≡ None) c.as_slice.ensures c.in_ok-walk_insns.ensures)
    (tells_append f _ _ _ (none_walked c.args.rule _ c.in_member-walk.result _ c.in_member-walk.ensures (subst (λ xs. (first (judge c.in_member-walk.result.rule c.in_member-walk.result.place) (flat_map handler_mentions xs)) ≡ None) c.as_slice-2.ensures c.in_ok-handlers.ensures))
    (tells_walked c.args.rule _ c.in_member-walk.result _ _ c.in_member-walk.ensures (subst (λ xs. Tells c.frames.result (first (judge c.in_member-walk.result.rule c.in_member-walk.result.place) (flat_map frame_mentions xs))) c.as_slice-3.ensures c.frames.ensures)))
