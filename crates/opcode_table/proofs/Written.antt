-- Writing onto the end of a list.
use Rattle.std.proofs.Common.{◌≡◌, ℕ, ◌+◌, ◌<◌, ◌≤◌, List, [], ◌∷◌, ◌++◌, length, take, get_or, Result, Ok, Err, OnOk, OnErr, refl, sym, ap, ◌∙◌, append_assoc, arith}
use Rattle.std.specs.Prelude.{ℤ}
use Rattle.std.specs.Int.{w32, cast_signed, cast_unsigned}
use Rattle.std.specs.Int.RustNames.{FitsSigned}
use Rattle.std.specs.List.{flat_map}
use Rattle.std.proofs.lemmas.Int.{to_z-of_z}
use Rattle.std.proofs.lemmas.List.{take_at, take-take, take_more, append-nil, length-append}
use Rattle.std.proofs.lemmas.List.Concat.{flat_map-cons}
use Rattle.std.proofs.lemmas.Grind.{flat_map-append}
use Rattle.opcode_table.specs.Writing.{i32_bytes, row_bytes}

pub on_err : {A E P : Type 0} (r : Result A E) → P → OnErr r P
on_err (Ok a) p = tt
on_err (Err e) p = p

-- what stood in front of a text that stands in front
pub kept_behind : (old now new more : List ℕ) → now ≡ old ++ more → take (length now) new ≡ now → take (length old) new ≡ old
kept_behind old now new more is kept =
    let size : length old ≤ length now = omega (arith, ap length is, length-append old more) in
    let front : take (length old) (take (length now) new) ≡ take (length old) new = take-take (length old) (length now) new size in
    sym front ∙ ap (take (length old)) (kept ∙ is) ∙ take_at old more (length old) refl

pub one_more : {X : Type 0} (f : X → List ℕ) (xs : List X) (i : ℕ) (x d : X) (old now new : List ℕ) → i < length xs → x ≡ get_or xs i d → now ≡ old ++ flat_map f (take i xs) → new ≡ now ++ f x → new ≡ old ++ flat_map f (take (i + 1) xs)
one_more {X} f xs i x d old now new lt is so_far then =
    let last : flat_map f (x ∷ []) ≡ f x = flat_map-cons f x [] ∙ append-nil (f x) in
    let front : take (i + 1) xs ≡ take i xs ++ x ∷ [] = take_more xs i d lt ∙ ap (λ (y : X). take i xs ++ y ∷ []) (sym is) in
    let whole : flat_map f (take (i + 1) xs) ≡ flat_map f (take i xs) ++ f x = ap (flat_map f) front ∙ flat_map-append f (take i xs) (x ∷ []) ∙ ap (λ (t : List ℕ). flat_map f (take i xs) ++ t) last in
    then ∙ ap (λ (t : List ℕ). t ++ f x) so_far ∙ append_assoc old (flat_map f (take i xs)) (f x) ∙ ap (λ (t : List ℕ). old ++ t) (sym whole)

-- a row whose numbers were cast to bits and back
pub cast_row : (front : List ℕ) (row : ℤ × ℤ) → FitsSigned w32 row.0 → FitsSigned w32 row.1
    → front ++ (i32_bytes (cast_signed w32 (cast_unsigned w32 row.0)) ++ i32_bytes (cast_signed w32 (cast_unsigned w32 row.1))) ≡ front ++ row_bytes row
cast_row front row key offset =
    let a = to_z-of_z w32 row.0 key in
    let b = to_z-of_z w32 row.1 offset in
    cc

pub on_ok_after : {A E P Q : Type 0} (r : Result A E) → (Q → P) → OnOk r Q → OnOk r P
on_ok_after (Ok a) f q = f q
on_ok_after (Err e) f q = tt

pub on_err_after : {A E P Q : Type 0} (r : Result A E) → (Q → P) → OnErr r Q → OnErr r P
on_err_after (Ok a) f q = tt
on_err_after (Err e) f q = f q

-- three texts, one after the other
pub three : (old one two new x a b : List ℕ) → one ≡ old ++ x → two ≡ one ++ a → new ≡ two ++ b → new ≡ old ++ (x ++ a ++ b)
three old one two new x a b p q r =
    r ∙ ap (λ (t : List ℕ). t ++ b) (q ∙ ap (λ (t : List ℕ). t ++ a) p ∙ append_assoc old x a) ∙ append_assoc old (x ++ a) b

-- a number that was cast to bits and back
pub cast_number : (front : List ℕ) (n m : ℤ) → FitsSigned w32 m → n ≡ m → front ++ i32_bytes (cast_signed w32 (cast_unsigned w32 n)) ≡ front ++ i32_bytes m
cast_number front n m fits is = ap (λ (z : ℤ). front ++ i32_bytes z) (ap (λ (z : ℤ). cast_signed w32 (cast_unsigned w32 z)) is ∙ to_z-of_z w32 m fits)

pub cast_switch : (front head : List ℕ) (a b : ℤ) → FitsSigned w32 a → FitsSigned w32 b
    → front ++ (head ++ i32_bytes (cast_signed w32 (cast_unsigned w32 a)) ++ i32_bytes (cast_signed w32 (cast_unsigned w32 b))) ≡ front ++ (head ++ i32_bytes a ++ i32_bytes b)
cast_switch front head a b p q =
    let c = to_z-of_z w32 a p in
    let d = to_z-of_z w32 b q in
    cc
