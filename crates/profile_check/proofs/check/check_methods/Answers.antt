use Rattle.profile_check.specs.Profile.{answer}
use Rattle.profile_check.proofs.First.{refuses_cons, tells_cons, tells_err, tells_one}
use Rattle.profile_check.proofs.check.check_methods.Goals as goal

pub returns-in_err-check_code_shape : goal.returns-in_err-check_code_shape
returns-in_err-check_code_shape c =
    let f = answer c.args.class.now in
    tells_err c.from_residual.result _ _ c.from_residual.ensures.1 (refuses_cons f _ _ _ c.in_err-check_code_shape.ensures)

pub returns-in_err-check_natives : goal.returns-in_err-check_natives
returns-in_err-check_natives c =
    let f = answer c.args.class.now in
    tells_cons f _ _ _ c.in_ok-check_code_shape.ensures (tells_err c.from_residual-in_err-check_natives.result _ _ c.from_residual-in_err-check_natives.ensures.1 (refuses_cons f _ _ _ c.in_err-check_natives.ensures))

pub returns-in_err-check_interface_methods : goal.returns-in_err-check_interface_methods
returns-in_err-check_interface_methods c =
    let f = answer c.args.class.now in
    tells_cons f _ _ _ c.in_ok-check_code_shape.ensures (tells_cons f _ _ _ c.in_ok-check_natives.ensures (tells_err c.from_residual-in_err-check_interface_methods.result _ _ c.from_residual-in_err-check_interface_methods.ensures.1 (refuses_cons f _ _ _ c.in_err-check_interface_methods.ensures)))

pub returns : goal.returns
returns c =
    let f = answer c.args.class.now in
    tells_cons f _ _ _ c.in_ok-check_code_shape.ensures (tells_cons f _ _ _ c.in_ok-check_natives.ensures (tells_cons f _ _ _ c.in_ok-check_interface_methods.ensures (tells_one f _ _ c.check_initializers.ensures)))
