-- Two neighbours of a set change places.
use Rattle.std.proofs.Common.{◌≡◌, ◌∙◌, ℕ, zero, suc, ◌+◌, Bool, true, false, cond, List, [], ◌∷◌, ◌++◌, length, refl, sym, ap, Option, Some, None, arith, eq-eqb, eqb-true}
use Rattle.std.specs.Prelude.{◌==◌, slice_get, position, option_map}
use Rattle.std.specs.List.{position_from}
use Rattle.std.proofs.lemmas.Iterator.Adapters.{position_from-zero}
use Rattle.class_model.specs.declared.class.ClassDef.{ClassDef}
use Rattle.set_lookups.specs.Above.{same_name}
use Rattle.set_lookups.specs.Needed.{duplicate}
use Rattle.set_lookups.specs.SameTypes.{one_test}
use Rattle.first_form_laws.proofs.Once.{different, two_names}
use Rattle.first_form_laws.proofs.Renumbered.{Renumbered}

-- a number and the next one change places
pub swapped : ℕ → ℕ → ℕ
swapped zero zero = 1
swapped zero (suc zero) = 0
swapped zero (suc (suc number)) = suc (suc number)
swapped (suc at) zero = 0
swapped (suc at) (suc number) = suc (swapped at number)

swapped_back : (at number : ℕ) → swapped at (swapped at number) ≡ number
unfolding swapped
swapped_back zero zero = refl
swapped_back zero (suc zero) = refl
swapped_back zero (suc (suc number)) = refl
swapped_back (suc at) zero = refl
swapped_back (suc at) (suc number) = ap suc (swapped_back at number)

swapped_apart : (at a b : ℕ) → (swapped at a == swapped at b) ≡ (a == b)
swapped_apart at a b =
    one_test (swapped at a == swapped at b) (a == b)
    (λ t. eq-eqb a b (sym (swapped_back at a) ∙ ap (swapped at) (eqb-true (swapped at a) (swapped at b) t) ∙ swapped_back at b))
    (λ t. eq-eqb (swapped at a) (swapped at b) (ap (swapped at) (eqb-true a b t)))

got : {A : Type 0} (front back : List A) (x y : A) (number : ℕ) → slice_get (front ++ y ∷ x ∷ back) (swapped (length front) number) ≡ slice_get (front ++ x ∷ y ∷ back) number
unfolding swapped
got [] back x y zero = refl
got [] back x y (suc zero) = refl
got [] back x y (suc (suc number)) = refl
got (z ∷ front) back x y zero = refl
got (z ∷ front) back x y (suc number) = got front back x y number

-- ---- the place of the first that passes a test

one_later : (b : Bool) (i : ℕ) (o : Option ℕ) → cond b (Some (i + 1)) (option_map suc o) ≡ option_map suc (cond b (Some i) o)
one_later true i o = ap Some (omega arith)
one_later false i o = refl

later : {A : Type 0} (p : A → Bool) (i : ℕ) (xs : List A) → position_from p (i + 1) xs ≡ option_map suc (position_from p i xs)
later p i [] = refl
later p i (x ∷ xs) = ap (λ o. cond (p x) (Some (i + 1)) o) (later p (i + 1) xs) ∙ one_later (p x) i (position_from p (i + 1) xs)

at_or_behind : {A : Type 0} (p : A → Bool) (x : A) (xs : List A) → position p (x ∷ xs) ≡ cond (p x) (Some 0) (option_map suc (position p xs))
at_or_behind p x xs =
    position_from-zero p (x ∷ xs)
    ∙ ap (λ o. cond (p x) (Some 0) o) (later p 0 xs)
    ∙ ap (λ o. cond (p x) (Some 0) (option_map suc o)) (sym (position_from-zero p xs))

two_places : {A : Type 0} (p : A → Bool) (x y : A) (xs : List A) → position p (x ∷ y ∷ xs) ≡ cond (p x) (Some 0) (option_map suc (cond (p y) (Some 0) (option_map suc (position p xs))))
two_places p x y xs = at_or_behind p x (y ∷ xs) ∙ ap (λ o. cond (p x) (Some 0) (option_map suc o)) (at_or_behind p y xs)

swap_two : (b c : Bool) (o : Option ℕ) → (b ≡ true → c ≡ true → ⊥)
    → cond c (Some 0) (option_map suc (cond b (Some 0) (option_map suc o))) ≡ option_map (swapped 0) (cond b (Some 0) (option_map suc (cond c (Some 0) (option_map suc o))))
unfolding swapped
swap_two true true o h = absurd (h refl refl)
swap_two true false o h = refl
swap_two false true o h = refl
swap_two false false None h = refl
swap_two false false (Some number) h = refl

swap_behind : (at : ℕ) (b : Bool) (o : Option ℕ) → cond b (Some 0) (option_map suc (option_map (swapped at) o)) ≡ option_map (swapped (suc at)) (cond b (Some 0) (option_map suc o))
unfolding swapped
swap_behind at true o = refl
swap_behind at false None = refl
swap_behind at false (Some number) = refl

found : {A : Type 0} (p : A → Bool) (front back : List A) (x y : A) → (p x ≡ true → p y ≡ true → ⊥) → position p (front ++ y ∷ x ∷ back) ≡ option_map (swapped (length front)) (position p (front ++ x ∷ y ∷ back))
found p [] back x y h = two_places p y x back ∙ swap_two (p x) (p y) (position p back) h ∙ ap (option_map (swapped 0)) (sym (two_places p x y back))
found p (z ∷ front) back x y h =
    at_or_behind p z (front ++ y ∷ x ∷ back)
    ∙ ap (λ o. cond (p z) (Some 0) (option_map suc o)) (found p front back x y h)
    ∙ swap_behind (length front) (p z) (position p (front ++ x ∷ y ∷ back))
    ∙ ap (option_map (swapped (suc (length front)))) (sym (at_or_behind p z (front ++ x ∷ y ∷ back)))

-- ---- the new numbers

long_swapped : (front back : List ClassDef) (class next : ClassDef) → length (front ++ next ∷ class ∷ back) ≡ length (front ++ class ∷ next ∷ back)
long_swapped [] back class next = refl
long_swapped (other ∷ front) back class next = ap suc (long_swapped front back class next)

pub neighbours : (front back : List ClassDef) (class next : ClassDef) → duplicate (front ++ class ∷ next ∷ back) ≡ None → Renumbered (front ++ class ∷ next ∷ back) (front ++ next ∷ class ∷ back) (swapped (length front))
unfolding duplicate
neighbours front back class next h = record {
  as_many = long_swapped front back class next;
  gets = got front back class next;
  finds = λ name. found (λ c. same_name c.name name) front back class next (two_names class next name (different front back class next h));
  apart = swapped_apart (length front);
}
