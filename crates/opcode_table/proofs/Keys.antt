-- Keys ascend where none is low, and the numbers of rows.
use Rattle.std.proofs.Common.{◌≡◌, ℕ, zero, suc, ◌+◌, ◌*◌, ◌<◌, ◌≤◌, Bool, true, false, List, length, refl, arith}
use Rattle.std.specs.Prelude.{ℤ, pos, negsuc, ◌+ℤ◌, ◌-ℤ◌, ◌<ℤ◌, ◌≤ℤ◌, int_lt, int_le, unsigned_abs, nat_le, ◌&&◌, ◌||◌}
use Rattle.std.specs.Int.{is_negative}
use Rattle.std.proofs.lemmas.Bool.{le-leb}
use Rattle.std.proofs.lemmas.Int.{ints}
use Rattle.opcode_table.specs.Fields.{i32_at, rows_at}
use Rattle.opcode_table.specs.Judging.{has_low_key}
use Rattle.opcode_table.specs.Spelling.{Ascends}

neither : (a b c : Bool) → (a && b) || c ≡ false → a ≡ true → (b ≡ false) × (c ≡ false)
neither true true c e there = absurd cc
neither true false c e there = (refl, e)
neither false b c e there = absurd cc

not_low : (a b : ℤ) → int_le b a ≡ false → a <ℤ b
not_low a b e = grind (arith, ints)

low_not : (a b : ℤ) → a <ℤ b → int_le b a ≡ false
low_not a b lt = grind (arith, ints)

pub ascends_from : (text : List ℕ) (at n : ℕ) → at + 8 * n ≤ length text → has_low_key text at n ≡ false → Ascends (rows_at text at n)
unfolding has_low_key rows_at
ascends_from text at zero le e = tt
ascends_from text at (suc zero) le e = tt
ascends_from text at (suc (suc n)) le e =
    let there : nat_le (at + 12) (length text) ≡ true = le-leb _ _ (omega arith) in
    let parts = neither (nat_le (at + 12) (length text)) (int_le (i32_at text (at + 8)) (i32_at text at)) (has_low_key text (at + 8) (suc n)) e there in
    (not_low (i32_at text at) (i32_at text (at + 8)) parts.0, ascends_from text (at + 8) (suc n) (omega arith) parts.1)

both_false : (a b c : Bool) → b ≡ false → c ≡ false → (a && b) || c ≡ false
both_false true b c p q = cc
both_false false b c p q = q

pub no_low_key : (text : List ℕ) (at n : ℕ) → Ascends (rows_at text at n) → has_low_key text at n ≡ false
unfolding has_low_key rows_at
no_low_key text at zero h = refl
no_low_key text at (suc zero) h = refl
no_low_key text at (suc (suc n)) h =
    both_false (nat_le (at + 12) (length text)) (int_le (i32_at text (at + 8)) (i32_at text at)) (has_low_key text (at + 8) (suc n)) (low_not (i32_at text at) (i32_at text (at + 8)) h.0) (no_low_key text (at + 8) (suc n) h.1)

-- ---- counts

pub count_is : (z : ℤ) → is_negative z ≡ false → z ≡ pos (unsigned_abs z)
count_is (pos n) e = refl
count_is (negsuc n) e = absurd cc

abs_of : (z : ℤ) → pos 0 ≤ℤ z → pos (unsigned_abs z) ≡ z
abs_of (pos n) le = refl
abs_of (negsuc n) le = absurd (omega (arith, ints))

pub span_is : (low high : ℤ) → int_lt high low ≡ false → high +ℤ pos 1 ≡ low +ℤ pos (unsigned_abs (high -ℤ low) + 1)
span_is low high e =
    let le : low ≤ℤ high = grind (arith, ints) in
    let abs : pos (unsigned_abs (high -ℤ low)) ≡ high -ℤ low = abs_of (high -ℤ low) (omega (arith, ints)) in
    omega (arith, ints)

pub in_order : (low high : ℤ) (n : ℕ) → 0 < n → high +ℤ pos 1 ≡ low +ℤ pos n → int_lt high low ≡ false
in_order low high n some e =
    let le : low ≤ℤ high = omega (arith, ints) in
    grind (arith, ints)

pub span_count : (low high : ℤ) (n : ℕ) → 0 < n → high +ℤ pos 1 ≡ low +ℤ pos n → unsigned_abs (high -ℤ low) + 1 ≡ n
span_count low high n some e =
    let abs : pos (unsigned_abs (high -ℤ low)) ≡ high -ℤ low = abs_of (high -ℤ low) (omega (arith, ints)) in
    omega (arith, ints)
