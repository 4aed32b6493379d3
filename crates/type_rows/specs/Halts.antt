-- Why a check ends, against what the rules say.
use Rattle.std.specs.Prelude.{◌≡◌, Result, Err}
use Rattle.type_rows.specs.declared.rule.VerifyRule.{VerifyRule}
use Rattle.type_rows.specs.declared.rule.Halt.{Halt}
use Rattle.type_rows.specs.declared.rule.Halt.TheVariants.{Broken, Memory}

-- a rule that is told is the one that fails
abbrev pub Halts : {A : Type 0} → Halt → Result A VerifyRule → Type 0
Halts (Broken rule) judged = judged ≡ Err rule
Halts Memory judged = Unit {0}
