use Rattle.std.proofs.Common.{◌∙◌, sym, ap, refl, arith}
use Rattle.std.specs.Prelude.{is_some}
use Rattle.class_set.specs.Open.{newly_left, leaves_new_open}
use Rattle.class_set.proofs.Judged.{class_passed, one_found, none_found}
use Rattle.class_set.proofs.build.any_new_open.Goals as goal

pub loop-number-init : goal.loop-number-init
unfolding newly_left
loop-number-init c = refl

pub loop-number-preserved : goal.loop-number-preserved
loop-number-preserved c =
    let set = c.args.set.now in
    c.loop-number.invariant ∙ class_passed (leaves_new_open set) set c.loop-number.number c.class.result.now c.class.ensures (sym c.leaves_new_open.ensures ∙ c.if-leaves_new_open.false)

pub returns-then-leaves_new_open : goal.returns-then-leaves_new_open
returns-then-leaves_new_open c =
    let set = c.args.set.now in
    sym (ap is_some (one_found (leaves_new_open set) set c.loop-number.number c.class.result.now _ c.loop-number.invariant c.class.ensures (sym c.leaves_new_open.ensures ∙ c.if-leaves_new_open.true)))

pub returns : goal.returns
returns c =
    let set = c.args.set.now in
    sym (ap is_some (none_found (leaves_new_open set) set c.loop-number.number _ c.loop-number.invariant (omega (arith, c.len-number-end.ensures, c.loop-number-test.false))))
