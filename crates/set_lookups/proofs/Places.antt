-- Places in lists.
use Rattle.std.proofs.Common.{◌≡◌, ℕ, ◌+◌, ◌<◌, ◌≤◌, ◌^◌, Bool, true, false, cond, List, [], ◌∷◌, length, Option, Some, None, arith, subst, sym}
use Rattle.std.proofs.lemmas.Iterator.Adapters.{position_from-zero}
use Rattle.std.specs.Prelude.{position, IfSome}
use Rattle.std.specs.List.{position_from}

abbrev pub Below : ℕ → Option ℕ → Type 0
Below n place = IfSome place (λ k. k < n)

below_more : (m n : ℕ) (place : Option ℕ) → m ≤ n → Below m place → Below n place
below_more m n None le h = h
below_more m n (Some k) le h = omega (arith, le, h)

chosen : (b : Bool) (n i : ℕ) (rest : Option ℕ) → i < n → Below n rest → Below n (cond b (Some i) rest)
chosen true n i rest lt h = lt
chosen false n i rest lt h = h

within_from : {A : Type 0} (test : A → Bool) (i : ℕ) (xs : List A) → Below (i + length xs) (position_from test i xs)
within_from test i [] = tt
within_from test i (x ∷ xs) =
    chosen (test x) (i + length (x ∷ xs)) i (position_from test (i + 1) xs) (omega arith) (below_more ((i + 1) + length xs) (i + length (x ∷ xs)) (position_from test (i + 1) xs) (omega arith) (within_from test (i + 1) xs))

pub within : {A : Type 0} (test : A → Bool) (xs : List A) → Below (length xs) (position test xs)
within test xs = subst (Below (length xs)) (sym (position_from-zero test xs)) (below_more (0 + length xs) (length xs) (position_from test 0 xs) (omega arith) (within_from test 0 xs))

-- a place in a short list fits 32 bits
pub fits : {A : Type 0} (test : A → Bool) (xs : List A) (n : ℕ) (place : Option ℕ) → place ≡ position test xs → length xs ≤ n → n < 2 ^ 32 → IfSome place (λ k. k < 2 ^ 32)
fits test xs n place e le small = rw e (below_more (length xs) (2 ^ 32) (position test xs) (omega (arith, le, small)) (within test xs))
