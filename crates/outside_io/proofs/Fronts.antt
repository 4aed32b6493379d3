-- Bytes that are taken from the front.
use Rattle.std.proofs.Common.{◌≡◌, ◌∙◌, ℕ, ◌+◌, List, ◌++◌, take, drop, sym, ap}
use Rattle.std.proofs.lemmas.List.{drop-drop, take-append-drop}

-- what a buffer got and what is left then is what was left
pub front_moves : (xs ys : List ℕ) (k n : ℕ) → take n ys ≡ take n (drop k xs) → drop k xs ≡ take n ys ++ drop (k + n) xs
front_moves xs ys k n e =
    sym (take-append-drop n (drop k xs)) ∙ ap (λ zs. zs ++ drop n (drop k xs)) (sym e) ∙ ap (λ zs. take n ys ++ zs) (drop-drop n k xs)
