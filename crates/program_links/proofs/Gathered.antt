-- What the items of a list give, one item after another.
use Rattle.std.proofs.Common.{◌≡◌, ◌∙◌, ℕ, ◌+◌, ◌≤◌, zero, suc, List, [], ◌∷◌, ◌++◌, length, drop, refl, sym, ap, Some, arith, append_assoc}
use Rattle.std.specs.Prelude.{slice_get, flat_map}
use Rattle.std.proofs.lemmas.Option.{same_Some, none-some}
use Rattle.look_laws.proofs.Alike.{append_none}

left_from : {A : Type 0} (xs : List A) (k : ℕ) (x : A) → slice_get xs k ≡ Some x → drop k xs ≡ x ∷ drop (suc k) xs
left_from [] k x e = absurd (none-some x e)
left_from (y ∷ xs) zero x e = ap (λ z. z ∷ xs) (same_Some y x e)
left_from (y ∷ xs) (suc k) x e = left_from xs k x e

none_left : {A : Type 0} (xs : List A) (k : ℕ) → length xs ≤ k → drop k xs ≡ []
none_left [] zero le = refl
none_left [] (suc k) le = refl
none_left (x ∷ xs) zero le = absurd (omega (arith, le))
none_left (x ∷ xs) (suc k) le = none_left xs k (omega (arith, le))

-- what is gathered so far, with what is left to give
pub record Gathered {A B : Type 0} (f : A → List B) (xs : List A) (got : List B) (count : ℕ) : Type 0 where
  pub all : flat_map f xs ≡ got ++ flat_map f (drop count xs)

pub gathered_none : {A B : Type 0} (f : A → List B) (xs : List A) → Gathered f xs [] 0
gathered_none f xs = record { all = refl }

pub gathered_more : {A B : Type 0} (f : A → List B) (xs : List A) (got new : List B) (count next : ℕ) (x : A) → Gathered f xs got count → slice_get xs count ≡ Some x → new ≡ got ++ f x → next ≡ count + 1 → Gathered f xs new next
gathered_more f xs got new count next x h at e n =
    let more : suc count ≡ next = omega (arith, n) in
    record {
      all = h.all ∙ ap (λ rest. got ++ flat_map f rest) (left_from xs count x at ∙ ap (λ k. x ∷ drop k xs) more)
          ∙ sym (append_assoc got (f x) (flat_map f (drop next xs))) ∙ ap (λ front. front ++ flat_map f (drop next xs)) (sym e);
    }

pub all_gathered : {A B : Type 0} (f : A → List B) (xs : List A) (got : List B) (count : ℕ) → Gathered f xs got count → length xs ≤ count → got ≡ flat_map f xs
all_gathered f xs got count h le = sym (h.all ∙ ap (λ rest. got ++ flat_map f rest) (none_left xs count le) ∙ append_none got)

-- the same, behind what was there
pub record Onto {A B : Type 0} (f : A → List B) (xs : List A) (old new : List B) (count : ℕ) : Type 0 where
  pub got : List B
  pub is : new ≡ old ++ got
  pub gathered : Gathered f xs got count

pub onto_none : {A B : Type 0} (f : A → List B) (xs : List A) (old : List B) → Onto f xs old old 0
onto_none f xs old = record { got = []; is = sym (append_none old); gathered = gathered_none f xs }

pub onto_more : {A B : Type 0} (f : A → List B) (xs : List A) (old new more : List B) (count next : ℕ) (x : A) → Onto f xs old new count → slice_get xs count ≡ Some x → more ≡ new ++ f x → next ≡ count + 1 → Onto f xs old more next
onto_more f xs old new more count next x h at e n = record {
  got = h.got ++ f x;
  is = e ∙ ap (λ front. front ++ f x) h.is ∙ append_assoc old h.got (f x);
  gathered = gathered_more f xs h.got (h.got ++ f x) count next x h.gathered at refl n;
}

pub all_onto : {A B : Type 0} (f : A → List B) (xs : List A) (old new : List B) (count : ℕ) → Onto f xs old new count → length xs ≤ count → new ≡ old ++ flat_map f xs
all_onto f xs old new count h le = h.is ∙ ap (λ got. old ++ got) (all_gathered f xs h.got count h.gathered le)
