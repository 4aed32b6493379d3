use Rattle.std.proofs.Common.{◌∙◌, sym, refl}
use Rattle.std.proofs.Common.{arith}
use Rattle.class_set.specs.FinalSuper.{final_super, has_final_super}
use Rattle.class_set.specs.declared.fault.SetFault.TheVariants.{FinalSuper}
use Rattle.class_set.proofs.Judged.{class_passed, class_found, none_found}
use Rattle.class_set.proofs.build.check_final_super.Goals as goal

pub loop-number-init : goal.loop-number-init
unfolding final_super
loop-number-init c = refl

pub loop-number-preserved : goal.loop-number-preserved
loop-number-preserved c =
    let set = c.args.set.now in
    c.loop-number.invariant ∙ class_passed (has_final_super set) set c.loop-number.number c.class-class.result.now c.class-class.ensures (sym c.has_final_super.ensures ∙ c.if-has_final_super.false)

pub returns-then-has_final_super : goal.returns-then-has_final_super
returns-then-has_final_super c =
    let set = c.args.set.now in
    class_found FinalSuper (has_final_super set) set c.loop-number.number c.class-class.result.now _ _ c.loop-number.invariant c.class-class.ensures (sym c.has_final_super.ensures ∙ c.if-has_final_super.true) c.in_ok-clone.ensures.cases

pub returns : goal.returns
returns c =
    let set = c.args.set.now in
    none_found (has_final_super set) set c.loop-number.number _ c.loop-number.invariant (omega (arith, c.len-number-end.ensures, c.loop-number-test.false))
