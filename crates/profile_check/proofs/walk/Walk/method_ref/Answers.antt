use Rattle.profile_check.specs.Walks.{judge}
use Rattle.profile_check.proofs.First.{refuses_cons, tells_cons, tells_err}
use Rattle.profile_check.proofs.walk.Walk.method_ref.Goals as goal

pub returns-in_err-type_used : goal.returns-in_err-type_used
returns-in_err-type_used c =
    let f = judge c.args.self.now.rule c.args.self.now.place in
    tells_err c.from_residual.result _ _ c.from_residual.ensures.1 (refuses_cons f _ _ _ c.in_err-type_used.ensures)

pub returns-in_err-called_name : goal.returns-in_err-called_name
returns-in_err-called_name c =
    let f = judge c.args.self.now.rule c.args.self.now.place in
    tells_cons f _ _ _ c.in_ok-type_used.ensures (tells_err c.from_residual-in_err-called_name.result _ _ c.from_residual-in_err-called_name.ensures.1 (refuses_cons f _ _ _ c.in_err-called_name.ensures))

pub returns : goal.returns
returns c =
    let f = judge c.args.self.now.rule c.args.self.now.place in
    tells_cons f _ _ _ c.in_ok-type_used.ensures (tells_cons f _ _ _ c.in_ok-called_name.ensures (c.descriptor.ensures))
