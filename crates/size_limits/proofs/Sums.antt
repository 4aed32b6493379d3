-- Sums and greatest numbers, item by item, as numbers of 64 bits.
use Rattle.std.proofs.Common.{◌≡◌, ◌∙◌, ℕ, ◌+◌, ◌<◌, ◌≤◌, List, [], ◌∷◌, ◌++◌, length, get_or, take, refl, sym, ap, arith}
use Rattle.std.specs.Prelude.{min, max, sum_by}
use Rattle.std.proofs.lemmas.List.{take_more, take_all}
use Rattle.std.proofs.lemmas.List.Sums.{sum_by_push}
use Rattle.class_limits.specs.Limits.{told}
use Rattle.size_limits.specs.Numbers.{most}

front_is : {A : Type 0} (xs : List A) (i : ℕ) (x : A) → i < length xs → x ≡ get_or xs i x → take (i + 1) xs ≡ take i xs ++ x ∷ []
front_is xs i x lt is = take_more xs i x lt ∙ ap (λ y. take i xs ++ y ∷ []) (sym is)

-- the sum over the first i items
pub record SumTo {A : Type 0} (f : A → ℕ) (xs : List A) (i n : ℕ) : Type 0 where
  pub is : n ≡ told (sum_by f (take i xs))

pub sum_none : {A : Type 0} (f : A → ℕ) (xs : List A) → SumTo f xs 0 0
sum_none f xs = record { is = refl }

pub sum_more : {A : Type 0} (f : A → ℕ) (xs : List A) (i n : ℕ) (x : A) (more next : ℕ) → SumTo f xs i n → i < length xs → x ≡ get_or xs i x → more ≡ told (f x) → next ≡ min (n + more) 18446744073709551615 → SumTo f xs (i + 1) next
sum_more f xs i n x more next so_far lt is more_is next_is =
    let front : sum_by f (take (i + 1) xs) ≡ sum_by f (take i xs) + f x = ap (sum_by f) (front_is xs i x lt is) ∙ sum_by_push f (take i xs) x in
    record { is = omega (arith, so_far.is, front, more_is, next_is) }

pub sum_all : {A : Type 0} (f : A → ℕ) (xs : List A) (i n : ℕ) → SumTo f xs i n → length xs ≤ i → n ≡ told (sum_by f xs)
sum_all f xs i n so_far le = so_far.is ∙ ap (λ ys. told (sum_by f ys)) (take_all i xs le)

-- the greatest of the first i items
pub record MostTo {A : Type 0} (f : A → ℕ) (xs : List A) (i n : ℕ) : Type 0 where
  pub is : n ≡ told (most f (take i xs))

pub most_none : {A : Type 0} (f : A → ℕ) (xs : List A) → MostTo f xs 0 0
unfolding most
most_none f xs = record { is = refl }

pub most_append : {A : Type 0} (f : A → ℕ) (xs ys : List A) → most f (xs ++ ys) ≡ max (most f xs) (most f ys)
unfolding most
most_append f [] ys = omega arith
most_append f (x ∷ xs) ys = omega (arith, most_append f xs ys)

pub most_one : {A : Type 0} (f : A → ℕ) (x : A) → most f (x ∷ []) ≡ f x
unfolding most
most_one f x = omega arith

pub most_more : {A : Type 0} (f : A → ℕ) (xs : List A) (i n : ℕ) (x : A) (more next : ℕ) → MostTo f xs i n → i < length xs → x ≡ get_or xs i x → more ≡ told (f x) → next ≡ max n more → MostTo f xs (i + 1) next
most_more f xs i n x more next so_far lt is more_is next_is =
    let front : most f (take (i + 1) xs) ≡ max (most f (take i xs)) (f x) = ap (most f) (front_is xs i x lt is) ∙ most_append f (take i xs) (x ∷ []) ∙ ap (max (most f (take i xs))) (most_one f x) in
    record { is = omega (arith, so_far.is, front, more_is, next_is) }

pub most_all : {A : Type 0} (f : A → ℕ) (xs : List A) (i n : ℕ) → MostTo f xs i n → length xs ≤ i → n ≡ told (most f xs)
most_all f xs i n so_far le = so_far.is ∙ ap (λ ys. told (most f ys)) (take_all i xs le)
