-- The answers of the check of a set.
use Rattle.std.proofs.Common.{◌≡◌, ℕ, ◌<◌, ◌≤◌, List, length, refl, sym, ap, ◌∙◌, subst, Option, Some, None, ◌⊎◌, inl, inr, arith}
use Rattle.std.specs.Prelude.{slice_get, option_and_then, IfSome}
use Rattle.std.proofs.lemmas.Bool.{cases_lt}
use Rattle.std.proofs.lemmas.Option.{slice_get_within}
use Rattle.class_model.specs.declared.class.ClassDef.{ClassDef}
use Rattle.set_lookups.specs.declared.ids.MethodId.{MethodId}
use Rattle.type_rows.specs.declared.rule.VerifyRule.{VerifyRule}
use Rattle.type_rows.specs.Method.{Method}
use Rattle.verifier.specs.declared.sets.SetVerifyStop.TheVariants.{Unverified}
use Rattle.verifier.specs.Set.{method_from, method_of}
use Rattle.verifier.specs.Verifies.{Verifies}
use Rattle.verifier.specs.Typed.{Typed}
use Rattle.verifier.specs.WholeSet.{Earlier, SetVerifies, Fails, FirstInSet, kept_at, AreRows}
use Rattle.verifier.proofs.Apart.{apart, one_failure}
use Rattle.verifier.proofs.Kept.{keeps_verifies}

module _ (set : List ClassDef) where
  id_verifies : (rows : List (List (Option Typed))) (id : MethodId) (o : Option ClassDef) → slice_get set id.class ≡ o → AreRows set rows (length set) → IfSome (option_and_then (method_from set id) o) Verifies
  id_verifies rows id None e r = tt
  id_verifies rows id (Some class) e r =
      subst (λ o. IfSome (option_and_then (method_from set id) o) Verifies) e (keeps_verifies (method_of set id) (kept_at rows id) (r.each id (slice_get_within set id.class class e)))

  -- frames for each method
  pub rows_verify : (rows : List (List (Option Typed))) → AreRows set rows (length set) → SetVerifies set
  rows_verify rows r id = id_verifies rows id (slice_get set id.class) refl r

  unlike : (o : Option Method) (at : ℕ) (rule : VerifyRule) → Fails o at rule → IfSome o Verifies → ⊥
  unlike None at rule f v = f
  unlike (Some m) at rule f v = apart m at rule f v

  -- a set with a first failure does not verify
  pub set_apart : (id : MethodId) (at : ℕ) (rule : VerifyRule) → FirstInSet set id at rule → SetVerifies set → ⊥
  set_apart id at rule f v = unlike (method_of set id) at rule f.fails (v id)

  not_earlier : (id other : MethodId) (at beside : ℕ) (rule second : VerifyRule) → FirstInSet set id at rule → FirstInSet set other beside second → Earlier other id → ⊥
  not_earlier id other at beside rule second f g e = unlike (method_of set other) beside second g.fails (f.earlier other e)

  same_failure : (o : Option Method) (at beside : ℕ) (rule second : VerifyRule) → Fails o at rule → Fails o beside second → (at ≡ beside) × (rule ≡ second)
  same_failure None at beside rule second f g = absurd f
  same_failure (Some m) at beside rule second f g = one_failure m at beside rule second f g

  in_order : (n k : ℕ) → (n < k → ⊥) → (k < n → ⊥) → (n < k) ⊎ (k ≤ n) → n ≡ k
  in_order n k f g (inl l) = absurd (f l)
  in_order n k f g (inr l) = omega (arith, g)

  same_id : (id other : MethodId) → (Earlier id other → ⊥) → (Earlier other id → ⊥) → id ≡ other
  same_id id other f g =
      let classes : id.class ≡ other.class = in_order id.class other.class (λ l. f (inl l)) (λ l. g (inl l)) (cases_lt id.class other.class) in
      let indices : id.index ≡ other.index =
      in_order id.index other.index (λ l. f (inr (classes, l))) (λ l. g (inr (sym classes, l))) (cases_lt id.index other.index) in
      ap (λ k. record { class = k; index = id.index }) classes ∙ ap (λ k. record { class = other.class; index = k }) indices

  -- there is one first failure at most
  pub one_in_set : (id other : MethodId) (at beside : ℕ) (rule second : VerifyRule) → FirstInSet set id at rule → FirstInSet set other beside second → Unverified set id at rule ≡ Unverified set other beside second
  one_in_set id other at beside rule second f g =
      let same : id ≡ other = same_id id other (not_earlier other id beside at second rule g f) (not_earlier id other at beside rule second f g) in
      let rest = same_failure (method_of set other) at beside rule second (subst (λ k. Fails (method_of set k) at rule) same f.fails) g.fails in
      ap (λ k. Unverified set k at rule) same ∙ ap (λ k. Unverified set other k rule) rest.0 ∙ ap (λ r. Unverified set other beside r) rest.1
