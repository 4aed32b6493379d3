-- Names that are looked for among those of classes made from rows.
use Rattle.std.proofs.Common.{◌≡◌, ◌∙◌, ℕ, zero, suc, ◌+◌, ◌<◌, ◌≤◌, List, [], ◌∷◌, ◌++◌, length, get_or, take, map, sym, ap, subst, ⊎_elim, arith}
use Rattle.std.specs.List.{Contains}
use Rattle.std.proofs.lemmas.List.{take_more, take_all, get_or-map, map-append, length-map}
use Rattle.std.proofs.lemmas.List.Elements.{Contains-append_cases}

single_at : {B : Type 0} (x y : B) (k : ℕ) → k < 1 → get_or (x ∷ []) k y ≡ y → x ≡ y
single_at x y zero lt is = is
single_at x y (suc k) lt is = absurd (omega arith)

pub single_only : {B : Type 0} (x y : B) → Contains (x ∷ []) y → x ≡ y
single_only x y is = single_at x y is.0 is.1 is.2

-- not among the rows so far, and not at the next
pub passed_more : {A B : Type 0} (f : A → B) (rows : List A) (i : ℕ) (d : A) (y : B) → i < length rows → (Contains (map f (take i rows)) y → ⊥) → (f (get_or rows i d) ≡ y → ⊥)
    → Contains (map f (take (i + 1) rows)) y → ⊥
passed_more f rows i d y lt before here is =
    let parts : map f (take (i + 1) rows) ≡ map f (take i rows) ++ f (get_or rows i d) ∷ [] = ap (map f) (take_more rows i d lt) ∙ map-append f (take i rows) (get_or rows i d ∷ []) in
    ⊎_elim before (λ last. here (single_only (f (get_or rows i d)) y last))
    (Contains-append_cases (map f (take i rows)) (f (get_or rows i d) ∷ []) y (subst (λ xs. Contains xs y) parts is))

pub passed_all : {A B : Type 0} (f : A → B) (rows : List A) (i : ℕ) (y : B) → length rows ≤ i → (Contains (map f (take i rows)) y → ⊥) → Contains (map f rows) y → ⊥
passed_all f rows i y le before is = before (subst (λ xs. Contains (map f xs) y) (sym (take_all i rows le)) is)

-- the one at a place is among them
pub named_at : {A B : Type 0} (f : A → B) (rows : List A) (i : ℕ) (d : A) (y : B) → i < length rows → f (get_or rows i d) ≡ y → Contains (map f rows) y
named_at f rows i d y lt same = (i, omega (arith, length-map rows f), get_or-map f rows i d y lt ∙ same)
