use Rattle.std.proofs.Common.{◌∙◌, sym, refl}
use Rattle.std.proofs.Common.{arith}
use Rattle.set_lookups.proofs.UpPieces.{none_of}
use Rattle.class_set.specs.Open.{abstract_left, leaves_open, newly_left}
use Rattle.class_set.specs.declared.fault.SetFault.TheVariants.{Abstract}
use Rattle.class_set.proofs.Judged.{class_passed, class_found, none_found}
use Rattle.class_set.proofs.Newly.{none_left}
use Rattle.class_set.proofs.build.check_open.Goals as goal

pub loop-number-init : goal.loop-number-init
unfolding abstract_left
loop-number-init c = refl

pub loop-number-preserved : goal.loop-number-preserved
loop-number-preserved c =
    let set = c.args.set.now in
    c.loop-number.invariant ∙ class_passed (leaves_open set) set c.loop-number.number c.class-class.result.now c.class-class.ensures (sym c.leaves_open.ensures ∙ c.if-leaves_open.false)

pub returns-then-leaves_open : goal.returns-then-leaves_open
returns-then-leaves_open c =
    let set = c.args.set.now in
    class_found Abstract (leaves_open set) set c.loop-number.number c.class-class.result.now _ _ c.loop-number.invariant c.class-class.ensures (sym c.leaves_open.ensures ∙ c.if-leaves_open.true) c.in_ok-clone.ensures.cases

pub returns : goal.returns
returns c =
    let set = c.args.set.now in
    none_found (leaves_open set) set c.loop-number.number _ c.loop-number.invariant (omega (arith, c.len-number-end.ensures, c.loop-number-test.false))

pub returns-then-not-any_new_open : goal.returns-then-not-any_new_open
returns-then-not-any_new_open c =
    none_left c.args.set.now c.requires (none_of (newly_left c.args.set.now) (sym c.any_new_open.ensures ∙ c.if-not-any_new_open.true))
