-- Items that stand twice in a list.
use Rattle.std.proofs.Common.{◌≡◌, ◌∙◌, ℕ, ◌+◌, ◌<◌, ◌≤◌, Bool, true, false, cond, List, [], ◌∷◌, ◌++◌, length, get_or, take, drop, refl, sym, ap, Option, Some, None}
use Rattle.std.specs.List.{list_any}
use Rattle.std.proofs.lemmas.List.{at_drop_more, at_drop_all, take_more}
use Rattle.profile_check.specs.Rows.{first_again}

step : {A : Type 0} (same : A → A → Bool) (earlier : List A) (at : ℕ) (x : A) (rest : List A) → first_again same earlier at (x ∷ rest) ≡ cond (list_any (same x) earlier) (Some at) (first_again same (earlier ++ x ∷ []) (at + 1) rest)
unfolding first_again
step same earlier at x rest = refl

here : {A : Type 0} (same : A → A → Bool) (xs : List A) (i : ℕ) (x : A) (answer : Bool) → i < length xs → x ≡ get_or xs i x → list_any (same x) (take i xs) ≡ answer → first_again same (take i xs) i (drop i xs) ≡ cond answer (Some i) (first_again same (take i xs ++ x ∷ []) (i + 1) (drop (i + 1) xs))
here same xs i x answer lt is e =
    at_drop_more (first_again same (take i xs) i) xs i x lt ∙ ap (λ y. first_again same (take i xs) i (y ∷ drop (i + 1) xs)) (sym is)
    ∙ step same (take i xs) i x (drop (i + 1) xs) ∙ ap (λ b. cond b (Some i) (first_again same (take i xs ++ x ∷ []) (i + 1) (drop (i + 1) xs))) e

pub again_here : {A : Type 0} (same : A → A → Bool) (xs : List A) (i : ℕ) (x : A) → i < length xs → x ≡ get_or xs i x → list_any (same x) (take i xs) ≡ true → first_again same (take i xs) i (drop i xs) ≡ Some i
again_here same xs i x lt is e = here same xs i x true lt is e

pub again_later : {A : Type 0} (same : A → A → Bool) (xs : List A) (i : ℕ) (x : A) → i < length xs → x ≡ get_or xs i x → list_any (same x) (take i xs) ≡ false → first_again same (take i xs) i (drop i xs) ≡ first_again same (take (i + 1) xs) (i + 1) (drop (i + 1) xs)
again_later same xs i x lt is e =
    here same xs i x false lt is e ∙ ap (λ front. first_again same front (i + 1) (drop (i + 1) xs)) (ap (λ y. take i xs ++ y ∷ []) is ∙ sym (take_more xs i x lt))

pub again_nowhere : {A : Type 0} (same : A → A → Bool) (xs : List A) (i : ℕ) → length xs ≤ i → first_again same (take i xs) i (drop i xs) ≡ None
unfolding first_again
again_nowhere same xs i le = at_drop_all (first_again same (take i xs) i) xs i le
