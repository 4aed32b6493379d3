-- Some element of a list, from a place on.
use Rattle.std.proofs.Common.{◌≡◌, ◌∙◌, ℕ, ◌+◌, ◌<◌, ◌≤◌, ◌||◌, Bool, true, false, List, length, drop, get_or, ap}
use Rattle.std.specs.List.{list_any}
use Rattle.std.proofs.lemmas.List.{at_drop_more, at_drop_all}

pub any_found : (f : ℕ → Bool) (xs : List ℕ) (i : ℕ) → i < length xs → f (get_or xs i 0) ≡ true → list_any f (drop i xs) ≡ true
any_found f xs i lt e = at_drop_more (list_any f) xs i 0 lt ∙ ap (λ b. b || list_any f (drop (i + 1) xs)) e

pub any_passed : (f : ℕ → Bool) (xs : List ℕ) (i : ℕ) → i < length xs → f (get_or xs i 0) ≡ false → list_any f (drop i xs) ≡ list_any f (drop (i + 1) xs)
any_passed f xs i lt e = at_drop_more (list_any f) xs i 0 lt ∙ ap (λ b. b || list_any f (drop (i + 1) xs)) e

pub any_over : (f : ℕ → Bool) (xs : List ℕ) (i : ℕ) → length xs ≤ i → list_any f (drop i xs) ≡ false
any_over f xs i le = at_drop_all (list_any f) xs i le
