-- The place of the first item that passes a test.
use Rattle.std.proofs.Common.{◌≡◌, ◌∙◌, ℕ, ◌+◌, ◌<◌, zero, suc, Bool, true, false, cond, List, [], ◌∷◌, ◌++◌, length, get_or, take, map, filter, refl, ap, Some, arith}
use Rattle.std.specs.Prelude.{slice_get, position}
use Rattle.std.specs.List.{list_any, position_from}
use Rattle.std.proofs.lemmas.Bool.{or_parts}
use Rattle.std.proofs.lemmas.Option.{same_Some, none-some}
use Rattle.std.proofs.lemmas.List.Quantifiers.{position-Some}

-- behind items that do not pass
pub skip : {A : Type 0} (p : A → Bool) (at : ℕ) (xs ys : List A) → list_any p xs ≡ false → position_from p at (xs ++ ys) ≡ position_from p (at + length xs) ys
skip p at [] ys h = let e : at ≡ at + 0 = omega arith in ap (λ n. position_from p n ys) e
skip p at (x ∷ xs) ys h =
    let parts = or_parts (p x) (list_any p xs) h in
    let e : at + 1 + length xs ≡ at + suc (length xs) = omega arith in
    ap (λ b. cond b (Some at) (position_from p (at + 1) (xs ++ ys))) parts.0 ∙ skip p (at + 1) xs ys parts.1 ∙ ap (λ n. position_from p n ys) e

-- in front of others
stop_by : {A : Type 0} (p : A → Bool) (at i : ℕ) (b : Bool) (xs zs : List A) → cond b (Some at) (position_from p (at + 1) xs) ≡ Some i → (position_from p (at + 1) xs ≡ Some i → position_from p (at + 1) zs ≡ Some i) → cond b (Some at) (position_from p (at + 1) zs) ≡ Some i
stop_by p at i true xs zs h rest = h
stop_by p at i false xs zs h rest = rest h

pub stop : {A : Type 0} (p : A → Bool) (at i : ℕ) (xs ys : List A) → position_from p at xs ≡ Some i → position_from p at (xs ++ ys) ≡ Some i
stop p at i [] ys h = absurd (none-some i h)
stop p at i (x ∷ xs) ys h = stop_by p at i (p x) xs (xs ++ ys) h (stop p (at + 1) i xs ys)

pub through : {A B : Type 0} (p : B → Bool) (f : A → B) (q : A → Bool) (at : ℕ) (xs : List A) → ((x : A) → p (f x) ≡ q x) → position_from p at (map f xs) ≡ position_from q at xs
through p f q at [] h = refl
through p f q at (x ∷ xs) h = ap (λ b. cond b (Some at) (position_from p (at + 1) (map f xs))) (h x) ∙ ap (λ rest. cond (q x) (Some at) rest) (through p f q (at + 1) xs h)

-- the first that passes, place by place
abbrev pub IsFirst : {A : Type 0} → (A → Bool) → List A → ℕ → Type 0
IsFirst p [] i = ⊥
IsFirst p (x ∷ xs) zero = p x ≡ true
IsFirst p (x ∷ xs) (suc i) = (p x ≡ false) × IsFirst p xs i

first_by : {A : Type 0} (p : A → Bool) (xs : List A) (i : ℕ) (d : A) → i < length xs → p (get_or xs i d) ≡ true → ((k : ℕ) → k < i → p (get_or xs k d) ≡ false) → IsFirst p xs i
first_by p [] i d lt h before = omega (arith, lt)
first_by p (x ∷ xs) zero d lt h before = h
first_by p (x ∷ xs) (suc i) d lt h before = (before 0 (omega arith), first_by p xs i d (omega (arith, lt)) h (λ k less. before (suc k) (omega (arith, less))))

pub first_placed : {A : Type 0} (p : A → Bool) (xs : List A) (i : ℕ) → position p xs ≡ Some i → IsFirst p xs i
first_placed p [] i h = absurd (none-some i h)
first_placed p (x ∷ xs) i h = let s = position-Some p (x ∷ xs) i x h in first_by p (x ∷ xs) i x s.0 s.1 s.2

-- its place among those that are kept
kept_here : {A : Type 0} (keep p : A → Bool) (at : ℕ) (x : A) (rest : List A) → keep x ≡ true → p x ≡ true → position_from p at (cond (keep x) (x ∷ rest) rest) ≡ Some at
kept_here keep p at x rest k h = ap (λ b. position_from p at (cond b (x ∷ rest) rest)) k ∙ ap (λ b. cond b (Some at) (position_from p (at + 1) rest)) h

kept_by : {A : Type 0} (p : A → Bool) (at : ℕ) (x : A) (b : Bool) (rest before : List A) → p x ≡ false → ((n : ℕ) → position_from p n rest ≡ Some (n + length before)) → position_from p at (cond b (x ∷ rest) rest) ≡ Some (at + length (cond b (x ∷ before) before))
kept_by p at x true rest before h same =
    let e : at + 1 + length before ≡ at + suc (length before) = omega arith in
    ap (λ b. cond b (Some at) (position_from p (at + 1) rest)) h ∙ same (at + 1) ∙ ap Some e
kept_by p at x false rest before h same = same at

pub kept_place : {A : Type 0} (keep p : A → Bool) (at : ℕ) (xs : List A) (i : ℕ) (x : A) → IsFirst p xs i → slice_get xs i ≡ Some x → keep x ≡ true → position_from p at (filter keep xs) ≡ Some (at + length (filter keep (take i xs)))
kept_place keep p at [] i x h e k = absurd h
kept_place keep p at (y ∷ ys) zero x h e k =
    let z : at ≡ at + 0 = omega arith in
    kept_here keep p at y (filter keep ys) (ap keep (same_Some y x e) ∙ k) h ∙ ap Some z
kept_place keep p at (y ∷ ys) (suc i) x h e k = kept_by p at y (keep y) (filter keep ys) (filter keep (take i ys)) h.0 (λ n. kept_place keep p n ys i x h.1 e k)
