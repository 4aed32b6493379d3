use Rattle.std.proofs.Common.{◌≡◌, subst, None}
use Rattle.std.specs.Prelude.{flat_map}
use Rattle.profile_check.specs.Answer.{Tells, Refuses}
use Rattle.profile_check.specs.First.{first}
use Rattle.profile_check.specs.Mentions.{vtype_mentions}
use Rattle.profile_check.specs.Walks.{judge}
use Rattle.profile_check.proofs.First.{refuses_append, tells_append, tells_err}
use Rattle.profile_check.proofs.walk.Walk.frame.Goals as goal

pub returns-in_err-vtypes : goal.returns-in_err-vtypes
returns-in_err-vtypes c =
    let f = judge c.args.self.now.rule c.args.self.now.place in
    tells_err c.from_residual.result _ _ c.from_residual.ensures.1 (refuses_append f _ _ _ (subst (λ xs. Refuses c.in_err-vtypes.field-0.0 (first f (flat_map vtype_mentions xs))) c.as_slice.ensures c.in_err-vtypes.ensures))

pub returns : goal.returns
returns c =
    let f = judge c.args.self.now.rule c.args.self.now.place in
    tells_append f _ _ _ (subst (λ xs. first f (flat_map vtype_mentions xs) ≡ None) c.as_slice.ensures c.in_ok-vtypes.ensures) ((subst (λ xs. Tells c.vtypes-2.result (first f (flat_map vtype_mentions xs))) c.as_slice-2.ensures c.vtypes-2.ensures))
