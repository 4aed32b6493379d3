-- One item more.
use Rattle.std.proofs.Common.{◌≡◌, ◌∙◌, ℕ, ◌+◌, ◌<◌, ◌≤◌, zero, suc, List, [], ◌∷◌, ◌++◌, length, take, refl, sym, ap, subst, Some, arith, ◌⊎◌, inl, inr}
use Rattle.std.specs.Prelude.{slice_get}
use Rattle.std.proofs.lemmas.Bool.{cases_lt}
use Rattle.std.proofs.lemmas.Option.{same_Some, none-some}
use Rattle.std.proofs.lemmas.List.{length_push}
use Rattle.set_lookups.proofs.Lists.{at_left}
use Rattle.class_model.specs.declared.class.ClassDef.{ClassDef}
use Rattle.program_links.specs.Methods.{set_methods, methods_before}
use Rattle.program_links.specs.Each.{HasOne, EachTo, Numbered}
use Rattle.program_links.proofs.Counted.{last_there}

one_by : {A B : Type 0} (R : A → B → Type 0) (xs : List A) (ys : List B) (count k : ℕ) (x z : A) (y : B) → (k < count) ⊎ (count ≤ k) → k < count + 1 → EachTo R xs ys count → slice_get xs count ≡ Some x → R x y → slice_get xs k ≡ Some z → HasOne R (ys ++ y ∷ []) k z
one_by R xs ys count k x z y (inl lt) le each at is e =
    let has = each.each k z lt e in
    record { item = has.item; at = at_left ys (y ∷ []) k has.item has.at; is = has.is }
one_by R xs ys count k x z y (inr ge) le each at is e =
    let n : k ≡ count = omega (arith, ge, le) in
    let m : k ≡ length ys = omega (arith, n, each.many) in
    let same : x ≡ z = same_Some x z (sym at ∙ ap (slice_get xs) (sym n) ∙ e) in
    record { item = y; at = ap (slice_get (ys ++ y ∷ [])) m ∙ last_there ys y; is = subst (λ w. R w y) same is }

pub each_more : {A B : Type 0} (R : A → B → Type 0) (xs : List A) (ys : List B) (count next : ℕ) (x : A) (y : B) → EachTo R xs ys count → slice_get xs count ≡ Some x → R x y → next ≡ count + 1 → EachTo R xs (ys ++ y ∷ []) next
each_more R xs ys count next x y each at is n = record {
  many = length_push ys y ∙ ap (λ k. k + 1) each.many ∙ sym n;
  each = λ k z lt e. one_by R xs ys count k x z y (cases_lt k count) (omega (arith, lt, n)) each at is e;
}

pub each_none : {A B : Type 0} (R : A → B → Type 0) (xs : List A) → EachTo R xs [] 0
each_none R xs = record { many = refl; each = λ k x lt e. absurd (omega (arith, lt)) }

-- all items are there
whole : {A : Type 0} (xs : List A) → take (length xs) xs ≡ xs
whole [] = refl
whole (x ∷ xs) = ap (λ ys. x ∷ ys) (whole xs)

pub all_methods : (set : List ClassDef) (number : ℕ) → number ≡ length set → methods_before set number ≡ length (set_methods set)
all_methods set number e = ap (methods_before set) e ∙ ap (λ (classes : List ClassDef). length (set_methods classes)) (whole set)

-- items by their numbers
by_place : {B : Type 0} (R : ℕ → B → Type 0) (ys : List B) (y z : B) (k : ℕ) → ((j : ℕ) (x : B) → slice_get ys j ≡ Some x → R j x) → R (length ys) y → slice_get (ys ++ y ∷ []) k ≡ Some z → R k z
by_place R [] y z zero each is e = subst (R 0) (same_Some y z e) is
by_place R [] y z (suc k) each is e = absurd (none-some z e)
by_place R (x ∷ ys) y z zero each is e = each 0 z e
by_place R (x ∷ ys) y z (suc k) each is e = by_place (λ j. R (suc j)) ys y z k (λ j w at. each (suc j) w at) is e

pub numbered_more : {B : Type 0} (R : ℕ → B → Type 0) (ys : List B) (count next : ℕ) (y : B) → Numbered R ys count → R count y → next ≡ count + 1 → Numbered R (ys ++ y ∷ []) next
numbered_more R ys count next y h is n = record {
  many = length_push ys y ∙ ap (λ k. k + 1) h.many ∙ sym n;
  each = λ k z e. by_place R ys y z k h.each (subst (λ j. R j y) (sym h.many) is) e;
}

pub none_numbered : {B : Type 0} (R : ℕ → B → Type 0) → Numbered R [] 0
none_numbered R = record { many = refl; each = λ k y e. absurd (none-some y e) }
