use Rattle.std.proofs.Common.{◌≡◌, subst, map, None}
use Rattle.profile_check.specs.Answer.{Tells, Refuses}
use Rattle.profile_check.specs.First.{first}
use Rattle.profile_check.specs.Mentions.{UsedClass}
use Rattle.profile_check.specs.Walks.{judge}
use Rattle.profile_check.proofs.First.{refuses_append, refuses_cons, tells_append, tells_cons, tells_err}
use Rattle.profile_check.proofs.walk.Walk.header.Goals as goal

pub returns-in_err-class_name : goal.returns-in_err-class_name
returns-in_err-class_name c =
    let f = judge c.args.self.now.rule c.args.self.now.place in
    tells_err c.from_residual.result _ _ c.from_residual.ensures.1 (refuses_cons f _ _ _ c.in_err-class_name.ensures)

pub returns-in_err-optional_class : goal.returns-in_err-optional_class
returns-in_err-optional_class c =
    let f = judge c.args.self.now.rule c.args.self.now.place in
    tells_cons f _ _ _ c.in_ok-class_name.ensures (tells_err c.from_residual-in_err-optional_class.result _ _ c.from_residual-in_err-optional_class.ensures.1 (refuses_append f _ _ _ c.in_err-optional_class.ensures))

pub returns : goal.returns
returns c =
    let f = judge c.args.self.now.rule c.args.self.now.place in
    tells_cons f _ _ _ c.in_ok-class_name.ensures (tells_append f _ _ _ c.in_ok-optional_class.ensures ((subst (λ xs. Tells c.used_classes.result (first f (map UsedClass xs))) c.as_slice.ensures c.used_classes.ensures)))
