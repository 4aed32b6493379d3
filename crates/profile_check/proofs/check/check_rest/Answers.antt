use Rattle.profile_check.specs.Profile.{answer}
use Rattle.profile_check.proofs.First.{refuses_cons, tells_cons, tells_err, tells_one}
use Rattle.profile_check.proofs.check.check_rest.Goals as goal

pub returns-in_err-check_constants : goal.returns-in_err-check_constants
returns-in_err-check_constants c =
    let f = answer c.args.class.now in
    tells_err c.from_residual.result _ _ c.from_residual.ensures.1 (refuses_cons f _ _ _ c.in_err-check_constants.ensures)

pub returns-in_err-check_twice : goal.returns-in_err-check_twice
returns-in_err-check_twice c =
    let f = answer c.args.class.now in
    tells_cons f _ _ _ c.in_ok-check_constants.ensures (tells_err c.from_residual-in_err-check_twice.result _ _ c.from_residual-in_err-check_twice.ensures.1 (refuses_cons f _ _ _ c.in_err-check_twice.ensures))

pub returns-in_err-check_params : goal.returns-in_err-check_params
returns-in_err-check_params c =
    let f = answer c.args.class.now in
    tells_cons f _ _ _ c.in_ok-check_constants.ensures (tells_cons f _ _ _ c.in_ok-check_twice.ensures (tells_err c.from_residual-in_err-check_params.result _ _ c.from_residual-in_err-check_params.ensures.1 (refuses_cons f _ _ _ c.in_err-check_params.ensures)))

pub returns-in_err-check_super : goal.returns-in_err-check_super
returns-in_err-check_super c =
    let f = answer c.args.class.now in
    tells_cons f _ _ _ c.in_ok-check_constants.ensures (tells_cons f _ _ _ c.in_ok-check_twice.ensures (tells_cons f _ _ _ c.in_ok-check_params.ensures (tells_err c.from_residual-in_err-check_super.result _ _ c.from_residual-in_err-check_super.ensures.1 (refuses_cons f _ _ _ c.in_err-check_super.ensures))))

pub returns-in_err-walk_class : goal.returns-in_err-walk_class
returns-in_err-walk_class c =
    let f = answer c.args.class.now in
    tells_cons f _ _ _ c.in_ok-check_constants.ensures (tells_cons f _ _ _ c.in_ok-check_twice.ensures (tells_cons f _ _ _ c.in_ok-check_params.ensures (tells_cons f _ _ _ c.in_ok-check_super.ensures (tells_err c.from_residual-in_err-walk_class.result _ _ c.from_residual-in_err-walk_class.ensures.1 (refuses_cons f _ _ _ c.in_err-walk_class.ensures)))))

pub returns : goal.returns
returns c =
    let f = answer c.args.class.now in
    tells_cons f _ _ _ c.in_ok-check_constants.ensures (tells_cons f _ _ _ c.in_ok-check_twice.ensures (tells_cons f _ _ _ c.in_ok-check_params.ensures (tells_cons f _ _ _ c.in_ok-check_super.ensures (tells_cons f _ _ _ c.in_ok-walk_class.ensures (tells_one f _ _ c.walk_class-2.ensures)))))
