use Rattle.std.proofs.Common.{◌+◌, sym, subst}
use Rattle.verifier.specs.WholeSet.{AreRows}
use Rattle.verifier.proofs.Kept.{class_checkable, set_stops, rows_more}
use Rattle.verifier.proofs.sets.check_classes.Goals as goal

pub check_class-requires : goal.check_class-requires
check_class-requires c =
    class_checkable c.args.set.now c.loop-number.number c.class-class.result.now c.requires c.class-class.ensures

pub returns-in-Err-clause-err : goal.returns-in-Err-clause-err
returns-in-Err-clause-err c =
    set_stops c.args.set.now c.loop-number.rows.items c.loop-number.number c.class-class.result.now c.in-Err.found c.loop-number.invariant c.class-class.ensures c.in-Err.ensures.err

pub loop-number-preserved : goal.loop-number-preserved
loop-number-preserved c =
    subst (λ rows. AreRows c.args.set.now rows (c.loop-number.number + 1)) (sym c.in_ok-put_row-in-Ok.ensures)
    (rows_more c.args.set.now c.loop-number.rows.items c.in-Ok.row c.loop-number.number c.class-class.result.now c.loop-number.invariant c.class-class.ensures c.in-Ok.ensures.ok)
