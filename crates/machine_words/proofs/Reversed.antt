-- A list whose last item is the top of a stack.
use Rattle.std.proofs.Common.{◌≡◌, ℕ, zero, suc, List, [], ◌∷◌, ◌++◌, refl, ap, sym, ◌∙◌, reverse, length, take, drop, arith, ◌≤◌, ◌<◌, ◌-◌}
use Rattle.std.specs.Prelude.{slice_set}
use Rattle.std.proofs.lemmas.List.{reverse-append, length-reverse, length-drop, take-append-drop}
use Rattle.std.proofs.Math.Seq.{drop-append_seam}

set_at : {A : Type 0} (xs : List A) (m : ℕ) (w : A) → m < length xs → slice_set xs m w ≡ take m xs ++ w ∷ drop (suc m) xs
set_at [] m w l = absurd (omega arith)
set_at (x ∷ xs) zero w l = refl
set_at (x ∷ xs) (suc m) w l = ap (λ q. x ∷ q) (set_at xs m w (omega arith))

split_at : {A : Type 0} (xs : List A) (m : ℕ) → m < length xs → (x : A) × (xs ≡ take m xs ++ x ∷ drop (suc m) xs)
split_at [] m l = absurd (omega arith)
split_at (x ∷ xs) zero l = (x, refl)
split_at (x ∷ xs) (suc m) l = let h = split_at xs m (omega arith) in (h.0, ap (λ q. x ∷ q) h.1)

set_seam : {A : Type 0} (ys : List A) (x w : A) (zs : List A) → slice_set (ys ++ x ∷ zs) (length ys) w ≡ ys ++ w ∷ zs
set_seam [] x w zs = refl
set_seam (y ∷ ys) x w zs = ap (λ q. y ∷ q) (set_seam ys x w zs)

append_one : {A : Type 0} (xs : List A) (y : A) (zs : List A) → (xs ++ y ∷ []) ++ zs ≡ xs ++ y ∷ zs
append_one [] y zs = refl
append_one (x ∷ xs) y zs = ap (λ q. x ∷ q) (append_one xs y zs)

-- a middle item, seen from the end
turned : {A : Type 0} (xs : List A) (x : A) (ys : List A) → reverse (xs ++ x ∷ ys) ≡ reverse ys ++ x ∷ reverse xs
turned xs x ys =
    reverse-append xs (x ∷ ys) ∙ ap (λ q. q ++ reverse xs) (reverse-append (x ∷ []) ys) ∙ append_one (reverse ys) x (reverse xs)

-- a word is written below so many others
pub set_within : {A : Type 0} (xs : List A) (m d n : ℕ) (w : A) → n ≡ length xs → d < length (reverse xs) → m ≡ n - 1 - d → reverse (slice_set xs m w) ≡ slice_set (reverse xs) d w
set_within {A} xs m d n w l h e =
    let k = length-reverse xs in
    let inside : m < length xs = omega arith in
    let parts = split_at xs m inside in
    let below = reverse (take m xs) in
    let above = reverse (drop (suc m) xs) in
    let high : length above ≡ d = omega (arith, length-reverse (drop (suc m) xs), length-drop (suc m) xs) in
    ap reverse (set_at xs m w inside) ∙ turned (take m xs) w (drop (suc m) xs)
    ∙ sym (set_seam above parts.0 w below)
    ∙ ap (λ (q : List A). slice_set q (length above) w) (sym (ap reverse parts.1 ∙ turned (take m xs) parts.0 (drop (suc m) xs)))
    ∙ ap (λ q. slice_set (reverse xs) q w) high

-- the topmost words are taken off
pub drop_tops : {A : Type 0} (xs : List A) (m k n : ℕ) → n ≡ length xs → k ≤ length (reverse xs) → m ≡ n - k → reverse (take m xs) ≡ drop k (reverse xs)
drop_tops {A} xs m k n l h e =
    let same = length-reverse xs in
    let above = reverse (drop m xs) in
    let high : length above ≡ k = omega (arith, length-reverse (drop m xs), length-drop m xs) in
    sym (drop-append_seam above (reverse (take m xs)))
    ∙ ap (λ q. drop q (above ++ reverse (take m xs))) high
    ∙ ap (λ (q : List A). drop k q) (sym (reverse-append (take m xs) (drop m xs)) ∙ ap reverse (take-append-drop m xs))

put_one : {A : Type 0} (st : List A) (m : ℕ) (w : A) → suc m ≤ length st → slice_set (drop m st) 0 w ≡ w ∷ drop (suc m) st
put_one [] m w l = absurd (omega arith)
put_one (x ∷ st) zero w l = refl
put_one (x ∷ st) (suc m) w l = put_one st m w (omega arith)

put_two : {A : Type 0} (st : List A) (m : ℕ) (w h : A) → suc (suc m) ≤ length st → slice_set (slice_set (drop m st) 1 w) 0 h ≡ h ∷ w ∷ drop (suc (suc m)) st
put_two [] m w h l = absurd (omega arith)
put_two (x ∷ []) m w h l = absurd (omega arith)
put_two (x ∷ y ∷ st) zero w h l = refl
put_two (x ∷ y ∷ st) (suc m) w h l = put_two (y ∷ st) m w h (omega arith)

-- one word in the place of so many, and two
pub replaced : {A : Type 0} (st : List A) (n m : ℕ) (w : A) → 1 ≤ n → n ≤ length st → m ≡ n - 1 → slice_set (drop m st) 0 w ≡ w ∷ drop n st
replaced st n m w l h e = let k : suc m ≡ n = omega arith in put_one st m w (omega arith) ∙ ap (λ i. w ∷ drop i st) k

pub replaced_two : {A : Type 0} (st : List A) (n m : ℕ) (w h : A) → 2 ≤ n → n ≤ length st → m ≡ n - 2 → slice_set (slice_set (drop m st) 1 w) 0 h ≡ h ∷ w ∷ drop n st
replaced_two st n m w h l s e = let k : suc (suc m) ≡ n = omega arith in put_two st m w h (omega arith) ∙ ap (λ i. h ∷ w ∷ drop i st) k
