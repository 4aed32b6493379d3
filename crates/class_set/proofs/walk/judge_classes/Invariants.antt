use Rattle.std.proofs.Common.{◌≡◌, drop, ℕ}
use Rattle.class_model.specs.declared.class.ClassDef.{ClassDef}
use Rattle.set_lookups.specs.First.{first, first_from}
use Rattle.class_set.specs.References as table
use Rattle.class_set.proofs.walk.judge_classes.Given as goal

-- the classes from here on decide
abbrev pub invariant-loop-current : goal.invariant-loop-current
invariant-loop-current g l =
    let told = λ (current : ℕ) (class : ClassDef). first (g.R.InsnRule.told l.rule current) (table.class_insns class) in
    first_from told 0 l.classes ≡ first_from told l.current (drop l.current l.classes)
