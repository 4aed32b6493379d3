-- The steps that structures share are exact for the forms that they read.
use Rattle.std.proofs.Common.{◌≡◌, ◌⊎◌, inl, inr, ℕ, Bool, true, false, List, [], ◌++◌, length, Option, Some, None, Result, Ok, Err, refl, sym, ap, subst, ◌∙◌}
use Rattle.std.specs.Prelude.{MatchBool}
use Rattle.std.specs.Int.{w16}
use Rattle.std.proofs.lemmas.List.{append-nil}
use Rattle.class_input.specs.declared.bad_class.BadKind.{BadKind}
use Rattle.class_input.specs.Reading.{Fault, Reading, ◌>>=◌, here, lifted, judging, number, many}
use Rattle.class_input.specs.Grammar.{IsU16, Each}
use Rattle.class_input.proofs.Laws.{Then, IsAnswer, Exact, Exact-same, then_exact, here_exact, lifted_exact, u16_exact, many_exact}
use Rattle.class_names.specs.Pieces.{IsTable, AtIndex}
use Rattle.class_names.specs.Steps.{table, fit, at_index}

-- ---- choices

pub split : {P Q : Type 0} (b : Bool) → MatchBool b P Q → ((b ≡ true) × P) ⊎ ((b ≡ false) × Q)
split true h = inl (refl, h)
split false h = inr (refl, h)

pub on_true : (P Q : Type 0) (b : Bool) → b ≡ true → P → MatchBool b P Q
on_true P Q b is h = subst (λ (z : Bool). MatchBool z P Q) (sym is) h

pub on_false : (P Q : Type 0) (b : Bool) → b ≡ false → Q → MatchBool b P Q
on_false P Q b is h = subst (λ (z : Bool). MatchBool z P Q) (sym is) h

-- a text whose rest is empty is its front
pub front_alone : (text front rest : List ℕ) → text ≡ front ++ rest → rest ≡ [] → front ≡ text
front_alone text front rest parts none = sym (parts ∙ ap (λ (z : List ℕ). front ++ z) none ∙ append-nil front)

-- ---- a table

pub table_exact : {A : Type 0} (R : List ℕ → A → Type 0) (r : Reading A) → Exact R r → Exact (IsTable R) (table r)
unfolding table
table_exact {A} R r e =
    let S : ℕ → List ℕ → List A → Type 0 = λ n text xs. (length xs ≡ n) × Each R text xs in
    Exact-same (Then IsU16 S) (IsTable R) (number w16 >>= λ count. many count r)
    (λ text xs h. record { count = h.1; rest = h.2; spelled = h.3; counted = subst (λ (k : ℕ). IsU16 h.1 k) (sym h.5.0) h.4; each_is = h.5.1 })
    (λ text xs h. (length xs, h.count, h.rest, h.spelled, h.counted, (refl, h.each_is)))
    (then_exact IsU16 S (number w16) (λ count. many count r) u16_exact (λ n. many_exact R n r e))

-- ---- judgements: a relation that says exactly what a judgement answers

abbrev pub fine : {A : Type 0} → A → Result A Fault
fine a = Ok a

pub record Judges {A : Type 0} (R : A → Type 0) (r : Result A Fault) : Type 0 where
  pub is : (a : A) → r ≡ fine a → R a
  pub again : (a : A) → R a → r ≡ fine a

pub judges_same : {A : Type 0} (R S : A → Type 0) (r : Result A Fault) → ((a : A) → R a → S a) → ((a : A) → S a → R a) → Judges R r → Judges S r
judges_same R S r to back j = record {
  is = λ a h. to a (j.is a h);
  again = λ a h. j.again a (back a h);
}

fine_is : {A : Type 0} (x a : A) → fine x ≡ fine a → x ≡ a
fine_is x a h = cc

pub fine_judges : {A : Type 0} (x : A) → Judges (λ a. x ≡ a) (fine x)
fine_judges x = record { is = λ a h. fine_is x a h; again = λ a h. ap fine h }

abbrev pub After : {A B : Type 0} → (A → Type 0) → (A → B → Type 0) → B → Type 0
After {A} R S b = (a : A) × R a × S a b

judging_is : {A B : Type 0} (r : Result A Fault) (f : A → Result B Fault) (b : B) → judging r f ≡ fine b → (a : A) × (r ≡ fine a) × (f a ≡ fine b)
judging_is (Ok a) f b h = (a, refl, h)
judging_is (Err d) f b h = absurd cc

-- one judgement after another
pub then_judges : {A B : Type 0} (R : A → Type 0) (S : A → B → Type 0) (r : Result A Fault) (f : A → Result B Fault) → Judges R r → ((a : A) → Judges (S a) (f a)) → Judges (After R S) (judging r f)
then_judges R S r f p q = record {
  is = λ b h. let j = judging_is r f b h in (j.0, p.is j.0 j.1, (q j.0).is b j.2);
  again = λ b h. ap (λ (z : _). judging z f) (p.again h.0 h.1) ∙ (q h.0).again b h.2;
}

fit_is : {A : Type 0} (place : ℕ) (kind : BadKind) (o : Option A) (a : A) → fit place kind o ≡ fine a → o ≡ Some a
fit_is place kind None a h = absurd cc
fit_is place kind (Some b) a h = cc

pub fit_judges : {A : Type 0} (place : ℕ) (kind : BadKind) (o : Option A) → Judges (λ a. o ≡ Some a) (fit place kind o)
fit_judges place kind o = record { is = λ a h. fit_is place kind o a h; again = λ a h. ap (fit place kind) h }

-- ---- an index, and what it names

-- a judgement of what a field holds, at the place of the field
pub judged_exact : {A : Type 0} (IsNumber : List ℕ → ℕ → Type 0) (r : Reading ℕ) (Names : ℕ → A → Type 0) (judge : ℕ → ℕ → Result A Fault) → Exact IsNumber r → ((place k : ℕ) → Judges (Names k) (judge place k))
    → Exact (λ text a. (k : ℕ) × IsNumber text k × Names k a) (here >>= λ place. r >>= λ k. lifted (judge place k))
judged_exact {A} IsNumber r Names judge e judges =
    let S : ℕ → List ℕ → A → Type 0 = λ k text a. (text ≡ []) × Names k a in
    let R : List ℕ → A → Type 0 = λ text a. (k : ℕ) × IsNumber text k × Names k a in
    Exact-same (Then IsNumber S) R (here >>= λ place. r >>= λ k. lifted (judge place k))
    (λ text a h. (h.0, subst (λ (z : List ℕ). IsNumber z h.0) (front_alone text h.1 h.2 h.3 h.5.0) h.4, h.5.1))
    (λ text a h. (h.0, text, [], sym (append-nil text), h.1, (refl, h.2)))
    (here_exact (Then IsNumber S) (λ place. r >>= λ k. lifted (judge place k)) (λ place.
    then_exact IsNumber S r (λ k. lifted (judge place k)) e (λ k.
    Exact-same (IsAnswer (judge place k)) (S k) (lifted (judge place k))
    (λ text a h. (h.0, (judges place k).is a h.1))
    (λ text a h. (h.0, (judges place k).again a h.1))
    (lifted_exact (judge place k)))))

pub at_index_exact : {A : Type 0} (Names : ℕ → A → Type 0) (judge : ℕ → ℕ → Result A Fault) → ((place k : ℕ) → Judges (Names k) (judge place k)) → Exact (AtIndex Names) (at_index judge)
unfolding at_index
at_index_exact Names judge judges = judged_exact IsU16 (number w16) Names judge u16_exact judges
