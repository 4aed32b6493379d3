-- Why a set has no frames.
use Rattle.std.specs.Prelude.{◌≡◌, ◌⊎◌, ℕ, List, Result, MatchResult}
use Rattle.class_model.specs.declared.class.ClassDef.{ClassDef}
use Rattle.set_lookups.specs.declared.ids.MethodId.{MethodId}
use Rattle.type_rows.specs.declared.rule.VerifyRule.{VerifyRule}
use Rattle.verifier.specs.declared.sets.SetVerifyStop.{SetVerifyStop}
use Rattle.verifier.specs.declared.sets.SetVerifyStop.TheVariants.{Unverified, Memory}
use Rattle.verifier.specs.WholeSet.{FirstInSet}

-- the set is handed back as it was, with the first method that fails
abbrev pub StopsVerified : List ClassDef → SetVerifyStop → Type 0
StopsVerified set (Unverified given id at rule) = (given ≡ set) × FirstInSet set id at rule
StopsVerified set Memory = Unit {0}

-- a set with a first method that fails is refused with it, want of memory aside
abbrev pub IsRefusedFirst : List ClassDef → Result (List ClassDef) SetVerifyStop → Type 0
IsRefusedFirst set result =
    (id : MethodId) (at : ℕ) (rule : VerifyRule) → FirstInSet set id at rule → MatchResult result (λ _. ⊥) (λ stop. (stop ≡ Unverified set id at rule) ⊎ (stop ≡ Memory))
