use Rattle.std.proofs.Common.{◌≡◌, subst, map, None}
use Rattle.profile_check.specs.Answer.{Tells, Refuses}
use Rattle.profile_check.specs.First.{first}
use Rattle.profile_check.specs.Mentions.{TypeUsed}
use Rattle.profile_check.specs.Walks.{judge}
use Rattle.profile_check.proofs.First.{refuses_append, tells_append, tells_err}
use Rattle.profile_check.proofs.walk.Walk.descriptor.Goals as goal

pub returns-in_err-types : goal.returns-in_err-types
returns-in_err-types c =
    let f = judge c.args.self.now.rule c.args.self.now.place in
    tells_err c.from_residual.result _ _ c.from_residual.ensures.1 (refuses_append f _ _ _ (subst (λ xs. Refuses c.in_err-types.field-0.0 (first f (map TypeUsed xs))) c.as_slice.ensures c.in_err-types.ensures))

pub returns : goal.returns
returns c =
    let f = judge c.args.self.now.rule c.args.self.now.place in
    tells_append f _ _ _ (subst (λ xs. first f (map TypeUsed xs) ≡ None) c.as_slice.ensures c.in_ok-types.ensures) (c.given.ensures)
