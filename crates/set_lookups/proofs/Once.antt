-- Lists without repetitions, and what does not see the difference.
use Rattle.std.proofs.Common.{◌≡◌, ◌∙◌, ℕ, ◌||◌, Bool, true, false, cond, eqb, eqb-true, List, [], ◌∷◌, ◌++◌, refl, sym, ap}
use Rattle.std.specs.Prelude.{nat_eq}
use Rattle.std.specs.List.{list_any}
use Rattle.std.proofs.lemmas.List.Folds.{list_any-append}
use Rattle.indexmap.specs.IndexSet.{insert_key}
use Rattle.set_lookups.specs.Levels.{once}

pub once_append : (keys xs ys : List ℕ) → once keys (xs ++ ys) ≡ once (once keys xs) ys
once_append keys [] ys = refl
once_append keys (x ∷ xs) ys = once_append (insert_key nat_eq keys x) xs ys

pub or_assoc_bool : (a b c : Bool) → ((a || b) || c) ≡ (a || (b || c))
or_assoc_bool true b c = refl
or_assoc_bool false b c = refl

or_false : (a : Bool) → (a || false) ≡ a
or_false true = refl
or_false false = refl

or_true : (a b : Bool) → a ≡ true → (a || b) ≡ true
or_true true b h = refl
or_true false b h = cc

-- a number that is there passes a test only where some number does
there_by : (f : ℕ → Bool) (x y : ℕ) (ys : List ℕ) (b : Bool) → eqb x y ≡ b → (b || list_any (nat_eq x) ys) ≡ true → (list_any (nat_eq x) ys ≡ true → list_any f ys ≡ true) → f x ≡ true → (f y || list_any f ys) ≡ true
there_by f x y ys true e h rest t = or_true (f y) (list_any f ys) (ap f (sym (eqb-true x y e)) ∙ t)
there_by f x y ys false e h rest t = ap (λ b. f y || b) (rest h) ∙ last (f y)
  where
    last : (b : Bool) → (b || true) ≡ true
    last true = refl
    last false = refl

pub there : (f : ℕ → Bool) (x : ℕ) (keys : List ℕ) → list_any (nat_eq x) keys ≡ true → f x ≡ true → list_any f keys ≡ true
there f x [] h t = cc
there f x (y ∷ ys) h t = there_by f x y ys (eqb x y) refl h (λ k. there f x ys k t) t

absorbed : (a b : Bool) → (b ≡ true → a ≡ true) → a ≡ (a || b)
absorbed true b h = refl
absorbed false true h = h refl
absorbed false false h = refl

any_insert_by : (f : ℕ → Bool) (keys : List ℕ) (x : ℕ) (b : Bool) → list_any (nat_eq x) keys ≡ b → list_any f (cond b keys (keys ++ x ∷ [])) ≡ (list_any f keys || f x)
any_insert_by f keys x true e = absorbed (list_any f keys) (f x) (λ t. there f x keys e t)
any_insert_by f keys x false e = list_any-append f keys (x ∷ []) ∙ ap (λ b. list_any f keys || b) (or_false (f x))

pub any_once : (f : ℕ → Bool) (keys xs : List ℕ) → list_any f (once keys xs) ≡ (list_any f keys || list_any f xs)
any_once f keys [] = sym (or_false (list_any f keys))
any_once f keys (x ∷ xs) =
    any_once f (insert_key nat_eq keys x) xs ∙ ap (λ b. b || list_any f xs) (any_insert_by f keys x (list_any (nat_eq x) keys) refl)
    ∙ or_assoc_bool (list_any f keys) (f x) (list_any f xs)
