use Rattle.profile_check.specs.Walks.{judge}
use Rattle.profile_check.proofs.First.{refuses_cons, tells_cons, tells_err, tells_one}
use Rattle.profile_check.proofs.walk.Walk.field.Goals as goal

pub returns-in_err-field_name : goal.returns-in_err-field_name
returns-in_err-field_name c =
    let f = judge c.args.self.now.rule c.args.self.now.place in
    tells_err c.from_residual.result _ _ c.from_residual.ensures.1 (refuses_cons f _ _ _ c.in_err-field_name.ensures)

pub returns : goal.returns
returns c =
    let f = judge c.args.self.now.rule c.args.self.now.place in
    tells_cons f _ _ _ c.in_ok-field_name.ensures (tells_one f _ _ c.type_used.ensures)
