use Rattle.std.proofs.Common.{◌∙◌, subst, sym}
use Rattle.std.specs.Prelude.{option_map}
use Rattle.class_set.specs.declared.fault.SetFault.TheVariants.{Core}
use Rattle.class_set.specs.Answer.{IsFault}
use Rattle.class_set.proofs.FirstFaults.{err_told}
use Rattle.class_set.proofs.Thrown.{thrown_told, thrown_passed, thrown_over}
use Rattle.class_set.proofs.core_check.check_thrown.Goals as goal

pub returns-in_err-require : goal.returns-in_err-require
returns-in_err-require c =
    let fault = c.in_err-require.field-0.0 in
    let told = thrown_told c.args.set.now c.args.names.now c.loop-name.name-index _ _ fault c.loop-name-test.true c.has_thrown.ensures c.in_err-require.ensures in
    err_told c.from_residual.result _ _ _ c.from_residual.ensures.1 (subst (λ o. IsFault (option_map Core o) fault) (sym c.loop-name.invariant) told)

pub loop-name-preserved : goal.loop-name-preserved
loop-name-preserved c =
    c.loop-name.invariant ∙ thrown_passed c.args.set.now c.args.names.now c.loop-name.name-index _ _ c.loop-name-test.true c.has_thrown.ensures c.in_ok-require.ensures

pub returns : goal.returns
returns c = c.loop-name.invariant ∙ thrown_over c.args.set.now c.args.names.now c.loop-name.name-index c.loop-name-test.false
