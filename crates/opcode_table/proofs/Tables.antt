-- The loops over the tables of switches.
use Rattle.std.proofs.Common.{◌≡◌, ℕ, zero, suc, ◌+◌, ◌*◌, ◌<◌, ◌≤◌, true, false, List, [], ◌∷◌, ◌++◌, length, refl, ap, ◌∙◌, arith, tests, rules}
use Rattle.std.specs.Prelude.{ℤ, ◌<ℤ◌, ◌≤ℤ◌, nat_le}
use Rattle.std.proofs.lemmas.Int.{ints}
use Rattle.opcode_table.specs.Fields.{i32_at, offsets_at, rows_at}
use Rattle.opcode_table.specs.Judging.{has_low_key}

pub offsets_more : (text : List ℕ) (at k : ℕ) → offsets_at text at (k + 1) ≡ offsets_at text at k ++ i32_at text (at + 4 * k) ∷ []
unfolding offsets_at
offsets_more text at zero = ap (λ (p : ℕ). i32_at text p ∷ []) (omega arith)
offsets_more text at (suc k) =
    let place : at + 4 + 4 * k ≡ at + 4 * suc k = omega arith in
    let more : suc k + 1 ≡ suc (k + 1) = omega arith in
    rw more (ap (λ (l : List ℤ). i32_at text at ∷ l) (offsets_more text (at + 4) k ∙ ap (λ (p : ℕ). offsets_at text (at + 4) k ++ i32_at text p ∷ []) place))

pub rows_more : (text : List ℕ) (at k : ℕ) → rows_at text at (k + 1) ≡ rows_at text at k ++ (i32_at text (at + 8 * k), i32_at text (at + 8 * k + 4)) ∷ []
unfolding rows_at
rows_more text at zero = ap (λ (p : ℕ). (i32_at text p, i32_at text (p + 4)) ∷ []) (omega arith)
rows_more text at (suc k) =
    let place : at + 8 + 8 * k ≡ at + 8 * suc k = omega arith in
    let more : suc k + 1 ≡ suc (k + 1) = omega arith in
    rw more (ap (λ (l : List (ℤ × ℤ)). (i32_at text at, i32_at text (at + 4)) ∷ l) (rows_more text (at + 8) k ∙ ap (λ (p : ℕ). rows_at text (at + 8) k ++ (i32_at text p, i32_at text (p + 4)) ∷ []) place))

-- where the second key is missing, so are all behind it
pub low_key_missing : (text : List ℕ) (at n : ℕ) → length text < at + 12 → has_low_key text at n ≡ false
unfolding has_low_key
low_key_missing text at zero short = refl
low_key_missing text at (suc zero) short = refl
low_key_missing text at (suc (suc n)) short =
    let short_too : length text < at + 8 + 12 = omega arith in
    let missing : nat_le (at + 12) (length text) ≡ false = search (tests, rules) in
    let others : has_low_key text (at + 8) (suc n) ≡ false = low_key_missing text (at + 8) (suc n) short_too in
    rw (missing, others) refl

pub low_key_found : (text : List ℕ) (at n : ℕ) → 0 < n → at + 12 ≤ length text → i32_at text (at + 8) ≤ℤ i32_at text at → has_low_key text at (n + 1) ≡ true
unfolding has_low_key
low_key_found text at zero some there low = absurd (omega arith)
low_key_found text at (suc n) some there low =
    let more : suc n + 1 ≡ suc (suc n) = omega arith in
    rw more (grind (arith, ints, tests))

pub low_key_next : (text : List ℕ) (at n : ℕ) → 0 < n → at + 12 ≤ length text → i32_at text at <ℤ i32_at text (at + 8) → has_low_key text at (n + 1) ≡ has_low_key text (at + 8) n
unfolding has_low_key
low_key_next text at zero some there low = absurd (omega arith)
low_key_next text at (suc n) some there low =
    let more : suc n + 1 ≡ suc (suc n) = omega arith in
    rw more (grind (arith, ints, tests))

pub low_key_one : (text : List ℕ) (at n : ℕ) → n ≤ 1 → has_low_key text at n ≡ false
unfolding has_low_key
low_key_one text at zero le = refl
low_key_one text at (suc zero) le = refl
low_key_one text at (suc (suc n)) le = absurd (omega arith)
