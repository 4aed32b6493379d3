use Rattle.std.proofs.Common.{◌∙◌, cond, refl, sym, ap, Some, None}
use Rattle.std.specs.Prelude.{option_map}
use Rattle.set_lookups.specs.First.{name_if}
use Rattle.set_lookups.specs.Cycle.{cycle, is_in_cycle}
use Rattle.set_lookups.specs.declared.fault.HierarchyFault.TheVariants.{Cycle}
use Rattle.set_lookups.proofs.Pieces.{numbered_found, numbered_passed}
use Rattle.set_lookups.proofs.cycles.find_first.Goals as goal

pub loop-at-init : goal.loop-at-init
unfolding cycle
loop-at-init c = refl

pub loop-at-preserved : goal.loop-at-preserved
loop-at-preserved c =
    let class = c.index-classes-at.result in
    let no = ap (λ b. cond b (Some class.name) None) (sym (c.in_ok-is_above.ensures class) ∙ c.if-is_above.false) in
    c.loop-at.invariant ∙ numbered_passed (name_if (is_in_cycle c.args.classes.now)) c.args.classes.now c.loop-at.at class c.loop-at-test.true c.index-classes-at.is (sym no)

pub returns-then-is_above : goal.returns-then-is_above
returns-then-is_above c =
    let class = c.index-classes-at.result in
    let yes = ap (λ b. cond b (Some class.name) None) (sym (c.in_ok-is_above.ensures class) ∙ c.if-is_above.true) in
    let told = c.loop-at.invariant ∙ numbered_found (name_if (is_in_cycle c.args.classes.now)) c.args.classes.now c.loop-at.at class class.name c.loop-at-test.true c.index-classes-at.is (sym yes) in
    ap (option_map Cycle) told ∙ ap (λ name. Some (Cycle name)) (sym c.in_ok-clone.ensures.cases)
