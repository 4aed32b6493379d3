-- What the check of a method answers, want of memory aside.
use Rattle.std.specs.Prelude.{◌≡◌, ℕ, ⊤, ◌⊎◌, Result, Err, IfOk, MatchResult}
use Rattle.type_rows.specs.declared.rule.VerifyRule.{VerifyRule}
use Rattle.type_rows.specs.Method.{Method}
use Rattle.verifier.specs.declared.typed_code.VerifyStop.{VerifyStop}
use Rattle.verifier.specs.declared.typed_code.VerifyStop.TheVariants.{Unverified, Memory}
use Rattle.verifier.specs.Verifies.{Verifies, FirstUnverified}
use Rattle.verifier.specs.Typed.{Typed, IsTyped}

pub record Exact (m : Method) (result : Result Typed VerifyStop) : Type 0 where
  -- the frames that are given are those of the method
  pub ok : IfOk result (IsTyped m)
  -- the failure that is told is the first
  pub unverified : (at : ℕ) (rule : VerifyRule) → result ≡ Err (Unverified at rule) → FirstUnverified m at rule
  -- a method that verifies is not refused
  pub passes : Verifies m → MatchResult result (λ _. ⊤) (λ stop. stop ≡ Memory)
  -- a method with a first failure is refused with it
  pub refused : (at : ℕ) (rule : VerifyRule) → FirstUnverified m at rule → MatchResult result (λ _. ⊥) (λ stop. (stop ≡ Unverified at rule) ⊎ (stop ≡ Memory))
