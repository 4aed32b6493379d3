use Rattle.profile_check.specs.Profile.{answer}
use Rattle.profile_check.proofs.First.{refuses_append, tells_append, tells_err}
use Rattle.profile_check.proofs.check.check_rows.Goals as goal

pub returns-in_err-check_flags : goal.returns-in_err-check_flags
returns-in_err-check_flags c =
    let f = answer c.args.class.now in
    tells_err c.from_residual.result _ _ c.from_residual.ensures.1 (refuses_append f _ _ _ c.in_err-check_flags.ensures)

pub returns-in_err-check_names : goal.returns-in_err-check_names
returns-in_err-check_names c =
    let f = answer c.args.class.now in
    tells_append f _ _ _ c.in_ok-check_flags.ensures (tells_err c.from_residual-in_err-check_names.result _ _ c.from_residual-in_err-check_names.ensures.1 (refuses_append f _ _ _ c.in_err-check_names.ensures))

pub returns-in_err-check_methods : goal.returns-in_err-check_methods
returns-in_err-check_methods c =
    let f = answer c.args.class.now in
    tells_append f _ _ _ c.in_ok-check_flags.ensures (tells_append f _ _ _ c.in_ok-check_names.ensures (tells_err c.from_residual-in_err-check_methods.result _ _ c.from_residual-in_err-check_methods.ensures.1 (refuses_append f _ _ _ c.in_err-check_methods.ensures)))

pub returns : goal.returns
returns c =
    let f = answer c.args.class.now in
    tells_append f _ _ _ c.in_ok-check_flags.ensures (tells_append f _ _ _ c.in_ok-check_names.ensures (tells_append f _ _ _ c.in_ok-check_methods.ensures (c.check_rest.ensures)))
