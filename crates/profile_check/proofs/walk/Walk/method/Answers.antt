use Rattle.profile_check.specs.Walks.{judge}
use Rattle.profile_check.proofs.First.{refuses_cons, tells_cons, tells_err}
use Rattle.profile_check.proofs.walk.Walk.method.Goals as goal

pub returns-in_err-method_name : goal.returns-in_err-method_name
returns-in_err-method_name c =
    let f = judge c.args.self.now.rule c.args.self.now.place in
    tells_err c.from_residual.result _ _ c.from_residual.ensures.1 (refuses_cons f _ _ _ c.in_err-method_name.ensures)

pub returns : goal.returns
returns c =
    let f = judge c.args.self.now.rule c.args.self.now.place in
    tells_cons f _ _ _ c.in_ok-method_name.ensures (c.descriptor.ensures)
