-- What a list has none of, its parts have none of.
use Rattle.std.proofs.Common.{◌≡◌, ◌∙◌, ℕ, ◌<◌, ◌≤◌, ◌^◌, Bool, true, false, cond, List, [], ◌∷◌, ◌++◌, length, map, Option, Some, None, refl, sym, ap, subst, arith, ltb}
use Rattle.std.specs.Prelude.{All, IfSome, option_map, option_to_list}
use Rattle.std.specs.List.{find, flat_map}
use Rattle.std.specs.Option.{option_or}
use Rattle.std.proofs.lemmas.Bool.{ltb-false}
use Rattle.std.proofs.lemmas.List.{map-append}
use Rattle.std.proofs.lemmas.List.Elements.{All-nil, All-cons}
use Rattle.class_model.specs.declared.class.CodeDef.{CodeDef}
use Rattle.class_limits.specs.Sizes.{code_size}
use Rattle.class_limits.specs.Limits.{first, told, first_that, first_over, long_text, is_bad_size, bad_size, far_in_code}

-- a search of a list that finds nothing in the parts of a list where it finds nothing in the list
pub record Splits {X : Type 0} (search : List X → Option ℕ) : Type 0 where
  pub parts : (xs ys : List X) → search (xs ++ ys) ≡ None → (search xs ≡ None) × (search ys ≡ None)

pub or_none : {A : Type 0} (o p : Option A) → option_or o p ≡ None → (o ≡ None) × (p ≡ None)
or_none None p h = (refl, h)
or_none (Some a) p h = absurd cc

pub map_none : {A B : Type 0} (f : A → B) (o : Option A) → option_map f o ≡ None → o ≡ None
map_none f None h = refl
map_none f (Some a) h = absurd cc

find_parts : {X : Type 0} (p : X → Bool) (xs ys : List X) → find p (xs ++ ys) ≡ None → (find p xs ≡ None) × (find p ys ≡ None)
find_parts p [] ys h = (refl, h)
find_parts {X} p (x ∷ xs) ys h = by (p x) (λ g. find_parts p xs ys g) h
  where
    by : (b : Bool) → (find p (xs ++ ys) ≡ None → (find p xs ≡ None) × (find p ys ≡ None)) → cond b (Some x) (find p (xs ++ ys)) ≡ None → (cond b (Some x) (find p xs) ≡ None) × (find p ys ≡ None)
    by true more h = absurd cc
    by false more h = more h

that_splits : (test : ℕ → Bool) → Splits (first_that test)
that_splits test = record {
  parts = λ xs ys h.
      let both = find_parts test xs ys (map_none told (find test (xs ++ ys)) h) in
      (ap (option_map told) both.0, ap (option_map told) both.1);
}

pub over_splits : (most : ℕ) → Splits (first_over most)
unfolding first_over
over_splits most = that_splits (ltb most)

mapped_splits : {X : Type 0} (f : X → ℕ) (test : ℕ → Bool) → Splits (λ xs. first_that test (map f xs))
mapped_splits {X} f test = record {
  parts = λ xs ys h. (that_splits test).parts (map f xs) (map f ys) (ap (first_that test) (sym (map-append f xs ys)) ∙ h);
}

pub text_splits : Splits long_text
unfolding long_text first_over
text_splits = mapped_splits length (ltb 65535)

pub size_splits : Splits bad_size
unfolding bad_size
size_splits = mapped_splits code_size is_bad_size

first_parts : {X : Type 0} (f : X → Option ℕ) (xs ys : List X) → first f (xs ++ ys) ≡ None → (first f xs ≡ None) × (first f ys ≡ None)
unfolding first
first_parts f [] ys h = (refl, h)
first_parts f (x ∷ xs) ys h =
    let one = or_none (f x) (first f (xs ++ ys)) h in
    let more = first_parts f xs ys one.1 in
    (rw (one.0, more.0) refl, more.1)

pub far_splits : Splits (first far_in_code)
far_splits = record { parts = first_parts far_in_code }

-- ---- the parts of lists and of what may be absent

pub each_none : {X A : Type 0} (search : List X → Option ℕ) → Splits search → (f : A → List X) (xs : List A) → search (flat_map f xs) ≡ None → All (λ x. search (f x) ≡ None) xs
each_none search splits f [] h = All-nil (λ x. search (f x) ≡ None)
each_none search splits f (x ∷ xs) h =
    let both = splits.parts (f x) (flat_map f xs) h in
    All-cons (λ x. search (f x) ≡ None) x xs both.0 (each_none search splits f xs both.1)

pub if_none : {X A : Type 0} (search : List X → Option ℕ) → Splits search → (f : A → List X) (o : Option A) → search (flat_map f (option_to_list o)) ≡ None → IfSome o (λ x. search (f x) ≡ None)
if_none search splits f None h = tt
if_none search splits f (Some x) h = (splits.parts (f x) [] h).0

-- ---- one

find_one : {X : Type 0} (p : X → Bool) (x : X) → find p (x ∷ []) ≡ None → p x ≡ false
find_one {X} p x h = by (p x) refl h
  where
    by : (b : Bool) → p x ≡ b → cond b (Some x) None ≡ None → p x ≡ false
    by true is h = absurd cc
    by false is h = is

pub short_one : (text : List ℕ) → long_text (text ∷ []) ≡ None → length text < 2 ^ 16
unfolding long_text first_over
short_one text h = let within = ltb-false 65535 (length text) (find_one (ltb 65535) (length text) (map_none told _ h)) in omega (arith, within)

pub few : (n : ℕ) → first_over 65535 (n ∷ []) ≡ None → n < 2 ^ 16
unfolding first_over
few n h = let within = ltb-false 65535 n (find_one (ltb 65535) n (map_none told _ h)) in omega (arith, within)

pub good_size : (code : CodeDef) → bad_size (code ∷ []) ≡ None → is_bad_size (code_size code) ≡ false
unfolding bad_size
good_size code h = find_one is_bad_size (code_size code) (map_none told _ h)

pub none_far : (code : CodeDef) → first far_in_code (code ∷ []) ≡ None → far_in_code code ≡ None
unfolding first
none_far code h = (or_none (far_in_code code) (first far_in_code []) h).0
