-- Keys that differ, and the places that they are found at.
use Rattle.std.proofs.Common.{◌≡◌, ◌∙◌, ℕ, ◌+◌, ◌<◌, ◌≤◌, zero, suc, Bool, true, false, ◌&&◌, cond, eqb-true, eq-eqb, List, [], ◌∷◌, get_or, refl, sym, ap, subst, Option, Some, None, arith, ◌⊎◌, inl, inr}
use Rattle.std.specs.Prelude.{slice_get, position}
use Rattle.std.specs.List.{position_from, IsDistinct}
use Rattle.std.proofs.lemmas.Bool.{cases_lt, both_ways, false≢true}
use Rattle.std.proofs.lemmas.Option.{same_Some, none-some, slice_get_within, get_or_from_slice_get}
use Rattle.std.proofs.lemmas.Map.Keys.{apart_from_distinct}
use Rattle.std.proofs.lemmas.Iterator.Adapters.{position_from-zero}
use Rattle.class_model.specs.declared.class.MethodDef.{MethodDef}
use Rattle.set_lookups.specs.Above.{same_name}
use Rattle.set_lookups.specs.Same.{same_desc}
use Rattle.set_lookups.specs.Flags.{is_inherited}
use Rattle.set_lookups.specs.SameTypes.{one_test}
use Rattle.look_laws.proofs.Alike.{placed}
use Rattle.program_links.specs.Keys.{same_selector, selector_true}
use Rattle.program_links.specs.Numbers.{Numbers}
use Rattle.program_links.specs.Selects.{is_it, SelectorOf}

-- a key that is among others has a place
place_by : (b : Bool) (at : ℕ) (rest : Option ℕ) → (m : ℕ) × (rest ≡ Some m) → (m : ℕ) × (cond b (Some at) rest ≡ Some m)
place_by true at rest h = (at, refl)
place_by false at rest h = h

place_from : {A : Type 0} (test : A → Bool) (at : ℕ) (xs : List A) (n : ℕ) (x : A) → slice_get xs n ≡ Some x → test x ≡ true → (m : ℕ) × (position_from test at xs ≡ Some m)
place_from test at [] n x e t = absurd (none-some x e)
place_from test at (y ∷ xs) zero x e t = (at, ap (λ b. cond b (Some at) (position_from test (at + 1) xs)) (ap test (same_Some y x e) ∙ t))
place_from test at (y ∷ xs) (suc n) x e t = place_by (test y) at (position_from test (at + 1) xs) (place_from test (at + 1) xs n x e t)

pub place_there : {A : Type 0} (test : A → Bool) (xs : List A) (n : ℕ) (x : A) → slice_get xs n ≡ Some x → test x ≡ true → (m : ℕ) × (position test xs ≡ Some m)
place_there test xs n x e t = let p = place_from test 0 xs n x e t in (p.0, position_from-zero test xs ∙ p.1)

-- two places of keys that are the same are one
apart_by : {K : Type 0} (test : K → K → Bool) (ks : List K) (i j : ℕ) (a b : K) → IsDistinct test ks → slice_get ks i ≡ Some a → slice_get ks j ≡ Some b → i < j → test a b ≡ true → ⊥
apart_by test ks i j a b distinct at there lt t =
    both_ways (test a b)
    (sym (ap (λ x. test x b) (get_or_from_slice_get ks i a a at)) ∙ sym (ap (test (get_or ks i a)) (get_or_from_slice_get ks j b a there)) ∙ apart_from_distinct test ks i j a distinct lt (slice_get_within ks j b there)) t

same_by : {K : Type 0} (test : K → K → Bool) (ks : List K) (i j : ℕ) (a b : K) → (i < j) ⊎ (j ≤ i) → (j < i) ⊎ (i ≤ j) → IsDistinct test ks → ((x y : K) → test x y ≡ true → x ≡ y) → slice_get ks i ≡ Some a → slice_get ks j ≡ Some b → test a b ≡ true → i ≡ j
same_by test ks i j a b (inl lt) other distinct is at there t = absurd (apart_by test ks i j a b distinct at there lt t)
same_by test ks i j a b (inr ge) (inl lt) distinct is at there t =
    let same : a ≡ b = is a b t in
    absurd (apart_by test ks j i b a distinct there at lt (subst (λ x. test b x ≡ true) (sym same) (subst (λ x. test x b ≡ true) same t)))
same_by test ks i j a b (inr ge) (inr le) distinct is at there t = omega (arith, ge, le)

pub same_place : {K : Type 0} (test : K → K → Bool) (ks : List K) (i j : ℕ) (a b : K) → IsDistinct test ks → ((x y : K) → test x y ≡ true → x ≡ y) → slice_get ks i ≡ Some a → slice_get ks j ≡ Some b → test a b ≡ true → i ≡ j
same_place test ks i j a b distinct is at there t = same_by test ks i j a b (cases_lt i j) (cases_lt j i) distinct is at there t

-- the place that a key is found at
found_forth : {K : Type 0} (test : K → K → Bool) (ks : List K) (key k : K) (n : ℕ) (found : Option ℕ) → position (test key) ks ≡ found → slice_get ks n ≡ Some k → is_it found n ≡ true → test key k ≡ true
found_forth test ks key k n None e at t = absurd (false≢true t)
found_forth test ks key k n (Some m) e at t =
    let p = placed (test key) ks m e in
    let same : m ≡ n = eqb-true m n t in
    ap (test key) (same_Some k p.item (sym at ∙ sym (ap (slice_get ks) same) ∙ p.at)) ∙ p.passes

found_back : {K : Type 0} (test : K → K → Bool) (ks : List K) (key k : K) (n : ℕ) (found : Option ℕ) → position (test key) ks ≡ found → IsDistinct test ks → ((x y : K) → test x y ≡ true → x ≡ y) → slice_get ks n ≡ Some k → test key k ≡ true → is_it found n ≡ true
found_back test ks key k n None e distinct is at t =
    let p = place_there (test key) ks n k at t in
    absurd (none-some p.0 (sym e ∙ p.1))
found_back test ks key k n (Some m) e distinct is at t =
    let p = placed (test key) ks m e in
    eq-eqb m n (same_place test ks m n p.item k distinct is p.at at (subst (λ x. test x k ≡ true) (is key p.item p.passes) t))

pub found_alone : {K : Type 0} (test : K → K → Bool) (ks : List K) (key k : K) (n : ℕ) (found : Option ℕ) → position (test key) ks ≡ found → IsDistinct test ks → ((x y : K) → test x y ≡ true → x ≡ y) → slice_get ks n ≡ Some k → is_it found n ≡ test key k
found_alone test ks key k n found e distinct is at =
    one_test (is_it found n) (test key k) (found_forth test ks key k n found e at) (found_back test ks key k n found e distinct is at)

-- the selector of a method
with_true : (a b c : Bool) → c ≡ true → (a && b) ≡ (a && b && c)
with_true true true c e = sym e
with_true true false c e = refl
with_true false b c e = refl

with_false : (a b c : Bool) → c ≡ false → false ≡ (a && b && c)
with_false true true c e = sym e
with_false true false c e = refl
with_false false b c e = refl

pub selector_is : (t : Numbers) (method : MethodDef) (found : Option ℕ) → found ≡ position (same_selector (record { name = method.name; desc = method.desc })) t.selectors → IsDistinct same_selector t.selectors → is_inherited method ≡ true → SelectorOf t method found
selector_is t method found e distinct inherited = record {
  is = λ n key at.
      found_alone same_selector t.selectors (record { name = method.name; desc = method.desc }) key n found (sym e) distinct selector_true at
      ∙ with_true (same_name method.name key.name) (same_desc method.desc key.desc) (is_inherited method) inherited;
}

pub selector_none : (t : Numbers) (method : MethodDef) → is_inherited method ≡ false → SelectorOf t method None
selector_none t method inherited = record { is = λ n key at. with_false (same_name method.name key.name) (same_desc method.desc key.desc) (is_inherited method) inherited }
