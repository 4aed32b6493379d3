use Rattle.std.proofs.Common.{◌∙◌, ℕ, sym, ap}
use Rattle.std.specs.Prelude.{flat_map}
use Rattle.class_model.specs.declared.class.ClassDef.{ClassDef}
use Rattle.set_lookups.specs.First.{first}
use Rattle.set_lookups.proofs.Pieces.{numbered_found, numbered_passed, numbered_over}
use Rattle.class_set.specs.References as table
use Rattle.class_set.proofs.walk.judge_classes.Goals as goal

pub returns-in-Some : goal.returns-in-Some
returns-in-Some g c =
    let told = λ (current : ℕ) (class : ClassDef). first (g.R.InsnRule.told c.args.rule.now current) (table.class_insns class) in
    let f = g.R.InsnRule.told c.args.rule.now c.loop-current.current in
    let answer = sym c.in-Some.is ∙ c.in_ok-text.ensures ∙ ap (λ methods. first f (flat_map table.code_insns methods)) c.as_slice-methods.ensures ∙ ap (λ (class : ClassDef). first f (table.class_insns class)) (sym c.index-classes-current.is) in
    sym (c.loop-current.invariant ∙ numbered_found told c.args.classes.now c.loop-current.current _ _ c.loop-current-test.true c.index-classes-current.is answer)

pub loop-current-preserved : goal.loop-current-preserved
loop-current-preserved g c =
    let told = λ (current : ℕ) (class : ClassDef). first (g.R.InsnRule.told c.args.rule.now current) (table.class_insns class) in
    let f = g.R.InsnRule.told c.args.rule.now c.loop-current.current in
    let answer = sym c.in_default.is ∙ c.in_ok-text.ensures ∙ ap (λ methods. first f (flat_map table.code_insns methods)) c.as_slice-methods.ensures ∙ ap (λ (class : ClassDef). first f (table.class_insns class)) (sym c.index-classes-current.is) in
    c.loop-current.invariant ∙ numbered_passed told c.args.classes.now c.loop-current.current _ c.loop-current-test.true c.index-classes-current.is answer

pub returns : goal.returns
returns g c =
    let told = λ (current : ℕ) (class : ClassDef). first (g.R.InsnRule.told c.args.rule.now current) (table.class_insns class) in
    sym (c.loop-current.invariant ∙ numbered_over told c.args.classes.now c.loop-current.current c.loop-current-test.false)
