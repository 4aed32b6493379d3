use Rattle.profile_check.specs.Profile.{answer}
use Rattle.profile_check.proofs.First.{refuses_cons, tells_cons, tells_err, tells_one}
use Rattle.profile_check.proofs.check.check_flags.Goals as goal

pub returns-in_err-check_version : goal.returns-in_err-check_version
returns-in_err-check_version c =
    let f = answer c.args.class.now in
    tells_err c.from_residual.result _ _ c.from_residual.ensures.1 (refuses_cons f _ _ _ c.in_err-check_version.ensures)

pub returns-in_err-check_class_flags : goal.returns-in_err-check_class_flags
returns-in_err-check_class_flags c =
    let f = answer c.args.class.now in
    tells_cons f _ _ _ c.in_ok-check_version.ensures (tells_err c.from_residual-in_err-check_class_flags.result _ _ c.from_residual-in_err-check_class_flags.ensures.1 (refuses_cons f _ _ _ c.in_err-check_class_flags.ensures))

pub returns-in_err-check_field_flags : goal.returns-in_err-check_field_flags
returns-in_err-check_field_flags c =
    let f = answer c.args.class.now in
    tells_cons f _ _ _ c.in_ok-check_version.ensures (tells_cons f _ _ _ c.in_ok-check_class_flags.ensures (tells_err c.from_residual-in_err-check_field_flags.result _ _ c.from_residual-in_err-check_field_flags.ensures.1 (refuses_cons f _ _ _ c.in_err-check_field_flags.ensures)))

pub returns : goal.returns
returns c =
    let f = answer c.args.class.now in
    tells_cons f _ _ _ c.in_ok-check_version.ensures (tells_cons f _ _ _ c.in_ok-check_class_flags.ensures (tells_cons f _ _ _ c.in_ok-check_field_flags.ensures (tells_one f _ _ c.check_method_flags.ensures)))
