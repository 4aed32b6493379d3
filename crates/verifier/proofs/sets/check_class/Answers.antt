use Rattle.std.proofs.Common.{◌≡◌, ◌+◌, Some, refl, sym, ap, ◌∙◌, subst}
use Rattle.std.specs.Prelude.{slice_get}
use Rattle.std.proofs.lemmas.Option.{slice_get_read}
use Rattle.verifier.specs.WholeSet.{IsRow, StopsClass}
use Rattle.verifier.proofs.Kept.{row_more, class_stops}
use Rattle.verifier.proofs.sets.check_class.Goals as goal

pub loop-index-preserved : goal.loop-index-preserved
loop-index-preserved c =
    let class = c.args.class.now in
    let read : slice_get c.as_slice-method-items.result.now c.loop-index.index ≡ Some c.method-item.result =
    slice_get_read _ _ c.loop-index.index c.method-item.result refl c.loop-index-test.true c.method-item.is in
    let here : slice_get class.methods c.loop-index.index ≡ Some c.method-item.result = ap (λ xs. slice_get xs c.loop-index.index) (sym c.as_slice-method-items.ensures) ∙ read in
    subst (λ row. IsRow c.args.set.now c.args.number class row (c.loop-index.index + 1)) (sym c.in_ok-push-in-Ok.ensures.ok)
    (row_more c.args.set.now c.args.number class c.loop-index.row c.in-Ok.kept c.loop-index.index c.method-item.result c.loop-index.invariant here c.in-Ok.ensures.ok)

pub returns-in-Err-clause-err : goal.returns-in-Err-clause-err
returns-in-Err-clause-err c =
    let class = c.args.class.now in
    let read : slice_get c.as_slice-method-items.result.now c.loop-index.index ≡ Some c.method-item.result =
    slice_get_read _ _ c.loop-index.index c.method-item.result refl c.loop-index-test.true c.method-item.is in
    let here : slice_get class.methods c.loop-index.index ≡ Some c.method-item.result = ap (λ xs. slice_get xs c.loop-index.index) (sym c.as_slice-method-items.ensures) ∙ read in
    subst (λ found. StopsClass c.args.set.now c.args.number class found) (sym c.told.ensures)
    (class_stops c.args.set.now c.args.number class c.loop-index.row c.loop-index.index c.method-item.result c.in-Err.stop c.loop-index.invariant here c.in-Err.ensures.err)
