-- Bytes that are taken four by four.
use Rattle.std.proofs.Common.{◌≡◌, ℕ, zero, suc, ◌<◌, ◌^◌, List, [], ◌∷◌, ◌++◌, length, get_or, ap, sym, ◌∙◌, arith, lit<}
use Rattle.std.specs.Prelude.{◌/◌, ◌%◌}
use Rattle.std.specs.Int.{w64, to_be_bytes, from_be_bytes}
use Rattle.std.proofs.lemmas.List.{nil_from_length}
use Rattle.class_input.specs.Grammar.{IsBytes}

pub four_items : (xs : List ℕ) → length xs ≡ 4 → get_or xs 0 0 ∷ get_or xs 1 0 ∷ get_or xs 2 0 ∷ get_or xs 3 0 ∷ [] ≡ xs
four_items [] len = absurd (omega arith)
four_items (a ∷ []) len = absurd (omega arith)
four_items (a ∷ b ∷ []) len = absurd (omega arith)
four_items (a ∷ b ∷ c ∷ []) len = absurd (omega arith)
four_items (a ∷ b ∷ c ∷ d ∷ xs) len = let none : [] ≡ xs = sym (nil_from_length xs (omega arith)) in ap (λ (z : List ℕ). a ∷ b ∷ c ∷ d ∷ z) none

pub joined_fours : (xs ys : List ℕ) → length xs ≡ 4 → length ys ≡ 4
    → get_or xs 0 0 ∷ get_or xs 1 0 ∷ get_or xs 2 0 ∷ get_or xs 3 0 ∷ get_or ys 0 0 ∷ get_or ys 1 0 ∷ get_or ys 2 0 ∷ get_or ys 3 0 ∷ [] ≡ xs ++ ys
joined_fours xs ys a b =
    ap (λ (z : List ℕ). get_or xs 0 0 ∷ get_or xs 1 0 ∷ get_or xs 2 0 ∷ get_or xs 3 0 ∷ z) (four_items ys b) ∙ ap (λ (z : List ℕ). z ++ ys) (four_items xs a)

-- ---- the bytes of a number

abbrev AllLow : List ℕ → Type 0
AllLow [] = Unit {0}
AllLow (b ∷ bs) = (b < 256) × AllLow bs

from_low : (bs : List ℕ) → AllLow bs → IsBytes bs
from_low [] h i = lit< tt
from_low (b ∷ bs) h zero = h.0
from_low (b ∷ bs) h (suc i) = from_low bs h.1 i

low : (n : ℕ) → n % 256 < 256
low n = omega arith

pub eight_are_bytes : (n : ℕ) → IsBytes (to_be_bytes w64 n)
eight_are_bytes n = from_low (to_be_bytes w64 n) (low (n / 72057594037927936), (low (n / 281474976710656), (low (n / 1099511627776), (low (n / 4294967296), (low (n / 16777216), (low (n / 65536), (low (n / 256), (low n, tt))))))))

pub eight_below : (bs : List ℕ) → IsBytes bs → from_be_bytes w64 bs < 2 ^ 64
eight_below bs fits = omega (arith, fits 0, fits 1, fits 2, fits 3, fits 4, fits 5, fits 6, fits 7)

pub append_bytes : (xs ys : List ℕ) → IsBytes xs → IsBytes ys → (i : ℕ) → get_or (xs ++ ys) i 0 < 256
append_bytes [] ys a b i = b i
append_bytes (x ∷ xs) ys a b zero = a 0
append_bytes (x ∷ xs) ys a b (suc i) = append_bytes xs ys (λ k. a (suc k)) b i
