use Rattle.std.proofs.Common.{◌≡◌, drop}
use Rattle.std.specs.Prelude.{flat_map}
use Rattle.set_lookups.specs.First.{first}
use Rattle.class_set.specs.References as table
use Rattle.class_set.proofs.walk.judge_methods.Given as goal

-- the methods from here on decide
abbrev pub invariant-loop-method : goal.invariant-loop-method
invariant-loop-method g l =
    first (g.R.InsnRule.told l.rule l.current) (flat_map table.code_insns l.methods)
    ≡ first (g.R.InsnRule.told l.rule l.current) (flat_map table.code_insns (drop l.method-index l.methods))
