use Rattle.profile_check.specs.Profile.{answer}
use Rattle.profile_check.proofs.First.{refuses_cons, tells_cons, tells_err, tells_one}
use Rattle.profile_check.proofs.check.check_names.Goals as goal

pub returns-in_err-walk_class : goal.returns-in_err-walk_class
returns-in_err-walk_class c =
    let f = answer c.args.class.now in
    tells_err c.from_residual.result _ _ c.from_residual.ensures.1 (refuses_cons f _ _ _ c.in_err-walk_class.ensures)

pub returns-in_err-walk_class-2 : goal.returns-in_err-walk_class-2
returns-in_err-walk_class-2 c =
    let f = answer c.args.class.now in
    tells_cons f _ _ _ c.in_ok-walk_class.ensures (tells_err c.from_residual-in_err-walk_class-2.result _ _ c.from_residual-in_err-walk_class-2.ensures.1 (refuses_cons f _ _ _ c.in_err-walk_class-2.ensures))

pub returns : goal.returns
returns c =
    let f = answer c.args.class.now in
    tells_cons f _ _ _ c.in_ok-walk_class.ensures (tells_cons f _ _ _ c.in_ok-walk_class-2.ensures (tells_one f _ _ c.check_reserved.ensures))
