-- The first answer along a list.
use Rattle.std.proofs.Common.{◌≡◌, ◌∙◌, ℕ, ◌+◌, ◌<◌, ◌≤◌, Bool, List, [], ◌∷◌, ◌++◌, length, get_or, take, drop, map, refl, sym, ap, subst, Option, Some, None, arith}
use Rattle.std.specs.Prelude.{nat_lt, option_map, flat_map, ◌==◌, ◌||◌, if◌then◌else◌}
use Rattle.std.specs.Option.{option_or}
use Rattle.std.specs.List.{find}
use Rattle.std.proofs.lemmas.List.{at_drop_more, at_drop_all, map-append}
use Rattle.std.proofs.lemmas.List.Folds.{find-append}
use Rattle.class_limits.specs.Limits.{first, told, first_that, first_over, long_text, bad_size, is_bad_size}
use Rattle.class_limits.specs.Sizes.{code_size}
use Rattle.class_model.specs.declared.class.CodeDef.{CodeDef}

pub first_none : {A B : Type 0} (f : A → Option B) → first f [] ≡ None
unfolding first
first_none f = refl

or_none : {A : Type 0} (x : Option A) → option_or x None ≡ x
or_none None = refl
or_none (Some x) = refl

or_or : {A : Type 0} (x y z : Option A) → option_or (option_or x y) z ≡ option_or x (option_or y z)
or_or None y z = refl
or_or (Some x) y z = refl

pub or_left : {A : Type 0} (x y : Option A) → option_or x y ≡ None → x ≡ None
or_left None y h = refl
or_left (Some x) y h = h

pub or_right : {A : Type 0} (x y : Option A) → option_or x y ≡ None → y ≡ None
or_right None y h = h
or_right (Some x) y h = absurd cc

pub first_one : {A B : Type 0} (f : A → Option B) (x : A) → first f (x ∷ []) ≡ f x
unfolding first
first_one f x = or_none (f x)

pub first_cons : {A B : Type 0} (f : A → Option B) (x : A) (xs : List A) → first f (x ∷ xs) ≡ option_or (f x) (first f xs)
unfolding first
first_cons f x xs = refl

pub first_append : {A B : Type 0} (f : A → Option B) (xs ys : List A) → first f (xs ++ ys) ≡ option_or (first f xs) (first f ys)
unfolding first
first_append f [] ys = refl
first_append f (x ∷ xs) ys = ap (option_or (f x)) (first_append f xs ys) ∙ sym (or_or (f x) (first f xs) (first f ys))

-- ---- a loop that finds nothing in the first i items

pub record NoneYet {A B : Type 0} (f : A → Option B) (xs : List A) (i : ℕ) : Type 0 where
  pub left : first f xs ≡ first f (drop i xs)

pub none_yet : {A B : Type 0} (f : A → Option B) (xs : List A) → NoneYet f xs 0
none_yet f xs = record { left = refl }

next_is : {A B : Type 0} (f : A → Option B) (xs : List A) (i : ℕ) (x : A) → NoneYet f xs i → i < length xs → x ≡ get_or xs i x → first f xs ≡ option_or (f x) (first f (drop (i + 1) xs))
next_is f xs i x none lt is =
    none.left ∙ at_drop_more (first f) xs i x lt ∙ ap (λ y. first f (y ∷ drop (i + 1) xs)) (sym is) ∙ first_cons f x (drop (i + 1) xs)

pub none_more : {A B : Type 0} (f : A → Option B) (xs : List A) (i : ℕ) (x : A) → NoneYet f xs i → i < length xs → x ≡ get_or xs i x → f x ≡ None → NoneYet f xs (i + 1)
none_more f xs i x none lt is nothing = record { left = next_is f xs i x none lt is ∙ ap (λ z. option_or z (first f (drop (i + 1) xs))) nothing }

pub found_here : {A B : Type 0} (f : A → Option B) (xs : List A) (i : ℕ) (x : A) (y : B) → NoneYet f xs i → i < length xs → x ≡ get_or xs i x → f x ≡ Some y → first f xs ≡ Some y
found_here f xs i x y none lt is some = next_is f xs i x none lt is ∙ ap (λ z. option_or z (first f (drop (i + 1) xs))) some

pub none_in_all : {A B : Type 0} (f : A → Option B) (xs : List A) (i : ℕ) → NoneYet f xs i → length xs ≤ i → first f xs ≡ None
none_in_all f xs i none le = none.left ∙ at_drop_all (first f) xs i le ∙ first_none f

-- ---- numbers

told_or : (x y : Option ℕ) → option_map told (option_or x y) ≡ option_or (option_map told x) (option_map told y)
told_or None y = refl
told_or (Some x) y = refl

pub that_append : (test : ℕ → Bool) (ms ns : List ℕ) → first_that test (ms ++ ns) ≡ option_or (first_that test ms) (first_that test ns)
that_append test ms ns = ap (option_map told) (find-append test ms ns) ∙ told_or (find test ms) (find test ns)

pub over_append : (most : ℕ) (ms ns : List ℕ) → first_over most (ms ++ ns) ≡ option_or (first_over most ms) (first_over most ns)
unfolding first_over
over_append most ms ns = that_append (nat_lt most) ms ns

pub over_none : (most : ℕ) → first_over most [] ≡ None
unfolding first_over
over_none most = refl

pub over_flat : {A : Type 0} (most : ℕ) (f : A → List ℕ) (xs : List A) → first_over most (flat_map f xs) ≡ first (λ x. first_over most (f x)) xs
unfolding first first_over
over_flat most f [] = refl
over_flat most f (x ∷ xs) = that_append (nat_lt most) (f x) (flat_map f xs) ∙ ap (option_or (first_over most (f x))) (over_flat most f xs)

-- ---- texts

pub long_none : long_text [] ≡ None
unfolding long_text first_over
long_none = refl

pub long_append : (ss ts : List (List ℕ)) → long_text (ss ++ ts) ≡ option_or (long_text ss) (long_text ts)
unfolding long_text
long_append ss ts = ap (first_over 65535) (map-append length ss ts) ∙ over_append 65535 (map length ss) (map length ts)

pub long_flat : {A : Type 0} (f : A → List (List ℕ)) (xs : List A) → long_text (flat_map f xs) ≡ first (λ x. long_text (f x)) xs
unfolding first
long_flat f [] = long_none
long_flat f (x ∷ xs) = long_append (f x) (flat_map f xs) ∙ ap (option_or (long_text (f x))) (long_flat f xs)

-- ---- sizes of code

pub bad_one : (code : CodeDef) (n : ℕ) → n ≡ told (code_size code) → bad_size (code ∷ []) ≡ (if is_bad_size n then Some n else None)
unfolding bad_size
bad_one code n is = grind arith

bad_append : (cs ds : List CodeDef) → bad_size (cs ++ ds) ≡ option_or (bad_size cs) (bad_size ds)
unfolding bad_size
bad_append cs ds = ap (first_that is_bad_size) (map-append code_size cs ds) ∙ that_append is_bad_size (map code_size cs) (map code_size ds)

pub bad_each : (cs : List CodeDef) → bad_size cs ≡ first (λ code. bad_size (code ∷ [])) cs
unfolding bad_size first
bad_each [] = refl
bad_each (c ∷ cs) = bad_append (c ∷ []) cs ∙ ap (option_or (bad_size (c ∷ []))) (bad_each cs)

pub bad_flat : {A : Type 0} (f : A → List CodeDef) (xs : List A) → bad_size (flat_map f xs) ≡ first (λ x. bad_size (f x)) xs
unfolding bad_size first
bad_flat f [] = refl
bad_flat f (x ∷ xs) = bad_append (f x) (flat_map f xs) ∙ ap (option_or (bad_size (f x))) (bad_flat f xs)
