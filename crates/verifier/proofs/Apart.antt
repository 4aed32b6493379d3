-- Typings are determined, so code that verifies has no first failure, and there is one first failure at most.
use Rattle.std.proofs.Common.{◌≡◌, ℕ, zero, suc, ◌<◌, ◌≤◌, List, [], ◌∷◌, length, refl, sym, ap, ◌∙◌, subst, Some, Result, Ok, Err, ◌⊎◌, inl, inr, arith}
use Rattle.std.specs.Prelude.{slice_get}
use Rattle.std.proofs.lemmas.Bool.{cases_lt}
use Rattle.std.proofs.lemmas.Option.{same_Some, slice_get_within}
use Rattle.type_rows.specs.declared.rule.VerifyRule.{VerifyRule}
use Rattle.type_rows.specs.Method.{Method}
use Rattle.verifier.specs.declared.typing.Typing.{Typing}
use Rattle.verifier.specs.Check.{judge}
use Rattle.verifier.specs.Verifies.{falls_from, came, AreTypings, FirstUnverified, Verifies}

same_Ok : {A : Type 0} (x : Result A VerifyRule) (a b : A) → x ≡ Ok a → x ≡ Ok b → a ≡ b
same_Ok x a b h k = cc

same_Err : {A : Type 0} (x : Result A VerifyRule) (a b : VerifyRule) → x ≡ Err a → x ≡ Err b → a ≡ b
same_Err x a b h k = cc

not_both : {A : Type 0} (x : Result A VerifyRule) (rule : VerifyRule) (a : A) → x ≡ Err rule → x ≡ Ok a → ⊥
not_both x rule a h k = cc

there : {A : Type 0} (xs : List A) (k : ℕ) → k < length xs → (x : A) × (slice_get xs k ≡ Some x)
there [] k h = absurd (omega arith)
there (x ∷ xs) zero h = (x, refl)
there (x ∷ xs) (suc k) h = there xs k (omega arith)

module _ (m : Method) (ts us : List Typing) (a : AreTypings m ts) (b : AreTypings m us) (short : length ts ≤ length m.code.insns) (long : length us ≤ length m.code.insns) where
  -- two lists of typings agree as far as both go
  came_same : (k : ℕ) → k ≤ length ts → k ≤ length us → came m ts k ≡ came m us k
  came_same zero h l = refl
  came_same (suc k) h l =
      let t = there ts k (omega arith) in
      let u = there us k (omega arith) in
      let i = there m.code.insns k (omega arith) in
      let same : t.0 ≡ u.0 =
      same_Ok (judge m k i.0 (came m us k)) t.0 u.0 (ap (judge m k i.0) (sym (came_same k (omega arith) (omega arith))) ∙ a.each k i.0 t.0 i.1 t.1) (b.each k i.0 u.0 i.1 u.1) in
      ap falls_from (t.1 ∙ ap Some same ∙ sym u.1)

-- an instruction that fails has no typing
fails_once : (m : Method) (at : ℕ) (rule : VerifyRule) (us : List Typing) → FirstUnverified m at rule → AreTypings m us → length us ≤ length m.code.insns → at < length us → ⊥
fails_once m at rule us f b long h =
    let ts = f.0 in
    let within = slice_get_within m.code.insns at f.3 f.4 in
    let u = there us at h in
    let same = came_same m ts us f.2 b (let z = f.1 in omega arith) long at (let z = f.1 in omega arith) (omega arith) in
    not_both (judge m at f.3 (came m us at)) rule u.0 (ap (judge m at f.3) (sym same) ∙ f.5) (b.each at f.3 u.0 f.4 u.1)

pub apart : (m : Method) (at : ℕ) (rule : VerifyRule) → FirstUnverified m at rule → Verifies m → ⊥
apart m at rule f v =
    let within = slice_get_within m.code.insns at f.3 f.4 in
    fails_once m at rule v.1.0 f v.1.3 (let z = v.1.2 in omega arith) (let z = v.1.2 in omega arith)

first_at : (m : Method) (at other : ℕ) (rule unlike : VerifyRule) → FirstUnverified m at rule → FirstUnverified m other unlike → at < other → ⊥
first_at m at other rule unlike f g h =
    let within = slice_get_within m.code.insns other g.3 g.4 in
    fails_once m at rule g.0 f g.2 (let z = g.1 in omega arith) (let z = g.1 in omega arith)

same_rule : (m : Method) (at : ℕ) (rule unlike : VerifyRule) → FirstUnverified m at rule → FirstUnverified m at unlike → rule ≡ unlike
same_rule m at rule unlike f g =
    let within = slice_get_within m.code.insns at f.3 f.4 in
    let same = came_same m f.0 g.0 f.2 g.2 (let z = f.1 in omega arith) (let z = g.1 in omega arith) at (let z = f.1 in omega arith) (let z = g.1 in omega arith) in
    let insn : f.3 ≡ g.3 = same_Some f.3 g.3 (sym f.4 ∙ g.4) in
    same_Err (judge m at g.3 (came m g.0 at)) rule unlike (ap (judge m at g.3) (sym same) ∙ ap (λ i. judge m at i (came m f.0 at)) (sym insn) ∙ f.5) g.5

order : (at other : ℕ) → (at < other → ⊥) → (other < at → ⊥) → (at < other) ⊎ (other ≤ at) → at ≡ other
order at other f g (inl l) = absurd (f l)
order at other f g (inr l) = omega (arith, g)

pub one_failure : (m : Method) (at other : ℕ) (rule unlike : VerifyRule) → FirstUnverified m at rule → FirstUnverified m other unlike → (at ≡ other) × (rule ≡ unlike)
one_failure m at other rule unlike f g =
    let same = order at other (first_at m at other rule unlike f g) (first_at m other at unlike rule g f) (cases_lt at other) in
    (same, same_rule m other rule unlike (subst (λ k. FirstUnverified m k rule) same f) g)
