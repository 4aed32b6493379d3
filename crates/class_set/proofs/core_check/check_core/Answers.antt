use Rattle.std.proofs.Common.{◌∙◌, sym}
use Rattle.class_set.proofs.FirstFaults.{err_told}
use Rattle.class_set.proofs.CoreParts.{object_told, string_told, parts_told}
use Rattle.class_set.proofs.core_check.check_core.Goals as goal

pub returns-in_err-require : goal.returns-in_err-require
returns-in_err-require c =
    err_told c.from_residual.result _ _ _ c.from_residual.ensures.1 (object_told c.args.set.now _ _ c.has_object.ensures c.in_err-require.ensures)

pub returns-in_err-require-2 : goal.returns-in_err-require-2
returns-in_err-require-2 c =
    let object = sym c.has_object.ensures ∙ c.in_ok-require.ensures in
    err_told c.from_residual-in_err-require-2.result _ _ _ c.from_residual-in_err-require-2.ensures.1 (string_told c.args.set.now _ _ object c.has_string.ensures c.in_err-require-2.ensures)

pub returns : goal.returns
returns c = parts_told c.args.set.now _ (sym c.has_object.ensures ∙ c.in_ok-require.ensures) (sym c.has_string.ensures ∙ c.in_ok-require-2.ensures) c.check_exceptions.ensures
