-- Subtypes as data, and the test that computes them.
use Rattle.std.proofs.Common.{◌≡◌, ◌∙◌, ℕ, ◌||◌, zero, suc, Bool, true, false, eqb, eqb-true, eq-eqb, List, [], ◌∷◌, length, refl, sym, ap, subst, Some, ◌↔◌, IsTrue}
use Rattle.std.specs.Prelude.{slice_get}
use Rattle.std.specs.List.{list_any}
use Rattle.class_model.specs.declared.class.ClassDef.{ClassDef}
use Rattle.std.proofs.lemmas.Option.{same_Some}
use Rattle.set_lookups.specs.Above.{Subtype, same, up, above, reaches, is_subtype}
use Rattle.set_lookups.specs.Rows.{Ranked}
use Rattle.set_lookups.proofs.Settled.{subtype_law}

-- an element of a list that passes a test
pub record Passes {A : Type 0} (f : A → Bool) (xs : List A) : Type 0 where
  pub place : ℕ
  pub item : A
  pub at : slice_get xs place ≡ Some item
  pub passes : f item ≡ true

later : {A : Type 0} (f : A → Bool) (x : A) (xs : List A) → Passes f xs → Passes f (x ∷ xs)
later f x xs p = record { place = suc p.place; item = p.item; at = p.at; passes = p.passes }

passes_by : {A : Type 0} (f : A → Bool) (x : A) (xs : List A) (b : Bool) → f x ≡ b → (b || list_any f xs) ≡ true → (list_any f xs ≡ true → Passes f xs) → Passes f (x ∷ xs)
passes_by f x xs true e h rest = record { place = 0; item = x; at = refl; passes = e }
passes_by f x xs false e h rest = later f x xs (rest h)

pub passes : {A : Type 0} (f : A → Bool) (xs : List A) → list_any f xs ≡ true → Passes f xs
passes f [] h = cc
passes f (x ∷ xs) h = passes_by f x xs (f x) refl h (passes f xs)

or_true : (b : Bool) → (b || true) ≡ true
or_true true = refl
or_true false = refl

pub any_at : {A : Type 0} (f : A → Bool) (xs : List A) (k : ℕ) (x : A) → slice_get xs k ≡ Some x → f x ≡ true → list_any f xs ≡ true
any_at f [] k x at h = cc
any_at f (y ∷ xs) zero x at h = ap (λ b. b || list_any f xs) (ap f (same_Some y x at) ∙ h)
any_at f (y ∷ xs) (suc k) x at h = ap (λ b. f y || b) (any_at f xs k x at h) ∙ or_true (f y)

subtype_of_self : (set : List ClassDef) (low high : ℕ) → eqb low high ≡ true → Subtype set low high
subtype_of_self set low high h = subst (λ n. Subtype set low n) (eqb-true low high h) same

reached_by : (set : List ClassDef) (k low high : ℕ) (b : Bool) → eqb low high ≡ b → (b || list_any (λ x. reaches k set x high) (above set low)) ≡ true → ((middle : ℕ) → reaches k set middle high ≡ true → Subtype set middle high) → Subtype set low high
reached_by set k low high true e h rest = subtype_of_self set low high e
reached_by set k low high false e h rest =
    let p = passes (λ x. reaches k set x high) (above set low) h in
    up (p.place, p.at) (rest p.item p.passes)

pub reached : (set : List ClassDef) (k low high : ℕ) → reaches k set low high ≡ true → Subtype set low high
reached set zero low high h = subtype_of_self set low high h
reached set (suc k) low high h = reached_by set k low high (eqb low high) refl h (λ middle r. reached set k middle high r)

pub computed : (set : List ClassDef) (ranks : List ℕ) → Ranked set ranks → (low high : ℕ) → Subtype set low high → is_subtype set low high ≡ true
computed set ranks r low high same = subtype_law set ranks high r low ∙ ap (λ b. b || list_any (λ x. is_subtype set x high) (above set low)) (eq-eqb high high refl)
computed set ranks r low high (up {middle = middle} direct rest) =
    subtype_law set ranks high r low
    ∙ ap (λ b. eqb low high || b) (any_at (λ x. is_subtype set x high) (above set low) direct.0 middle direct.1 (computed set ranks r middle high rest))
    ∙ or_true (eqb low high)

pub subtype_exact : (set : List ClassDef) (ranks : List ℕ) (low high : ℕ) (answer : Bool) → Ranked set ranks → answer ≡ is_subtype set low high → IsTrue answer ↔ Subtype set low high
unfolding is_subtype
subtype_exact set ranks low high answer r e = (λ yes. reached set (length set) low high (sym e ∙ yes), λ below. e ∙ computed set ranks r low high below)
