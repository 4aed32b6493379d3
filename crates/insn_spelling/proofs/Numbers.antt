-- Numbers as they stand in the bytes of an instruction.
use Rattle.std.proofs.Common.{◌≡◌, ℕ, zero, suc, ◌<◌, ◌≤◌, ◌^◌, List, [], ◌∷◌, length, take, refl, sym, ap, arith, lit<}
use Rattle.std.specs.Prelude.{◌%◌, ℤ, pos, negsuc, FitsSigned}
use Rattle.std.specs.Int.{w8, w16, w32, cast_signed, cast_unsigned}
use Rattle.std.proofs.lemmas.Int.{ints, to_z-of_z}
use Rattle.class_input.specs.Grammar.{IsBytes, IsU8, IsU16}
use Rattle.opcode_table.specs.Fields.{padding}
use Rattle.opcode_table.specs.Writing.{u16_bytes, i8_bytes, i16_bytes, i32_bytes, zeros}
use Rattle.insn_code.specs.InsnBytes.{IsI32, IsPadding}

pub u8_is : (n : ℕ) → n < 256 → IsU8 (n ∷ []) n
u8_is n h = let low : n % 256 ≡ n = omega arith in (h, ap (λ (k : ℕ). k ∷ []) (sym low))

pub u16_is : (n : ℕ) → n < 2 ^ 16 → IsU16 (u16_bytes n) n
unfolding u16_bytes
u16_is n h = (h, refl)

unsigned_8 : (z : ℤ) → FitsSigned w8 z → cast_unsigned w8 z < 2 ^ 8
unsigned_8 (pos n) fits = omega (arith, ints)
unsigned_8 (negsuc n) fits = omega (arith, ints)

unsigned_16 : (z : ℤ) → FitsSigned w16 z → cast_unsigned w16 z < 2 ^ 16
unsigned_16 (pos n) fits = omega (arith, ints)
unsigned_16 (negsuc n) fits = omega (arith, ints)

unsigned_32 : (z : ℤ) → FitsSigned w32 z → cast_unsigned w32 z < 2 ^ 32
unsigned_32 (pos n) fits = omega (arith, ints)
unsigned_32 (negsuc n) fits = omega (arith, ints)

-- a signed number of one byte and of two: what is read, and that it is the number again
pub i8_is : (z : ℤ) → FitsSigned w8 z → (n : ℕ) × IsU8 (i8_bytes z) n × (cast_signed w8 n ≡ z)
unfolding i8_bytes
i8_is z fits = (cast_unsigned w8 z, u8_is (cast_unsigned w8 z) (unsigned_8 z fits), to_z-of_z w8 z fits)

pub i16_is : (z : ℤ) → FitsSigned w16 z → (n : ℕ) × IsU16 (i16_bytes z) n × (cast_signed w16 n ≡ z)
unfolding i16_bytes
i16_is z fits = (cast_unsigned w16 z, (unsigned_16 z fits, refl), to_z-of_z w16 z fits)

pub i32_is : (z : ℤ) → FitsSigned w32 z → IsI32 (i32_bytes z) z
unfolding i32_bytes
i32_is z fits = (cast_unsigned w32 z, (unsigned_32 z fits, refl), to_z-of_z w32 z fits)

-- ---- padding

none_is_bytes : IsBytes []
none_is_bytes zero = lit< tt
none_is_bytes (suc i) = lit< tt

more_bytes : (text : List ℕ) → IsBytes text → IsBytes (0 ∷ text)
more_bytes text h zero = lit< tt
more_bytes text h (suc i) = h i

three : List ℕ
three = 0 ∷ 0 ∷ 0 ∷ []

zeros_are : (n : ℕ) → n ≤ 3 → (length (take n three) ≡ n) × IsBytes (take n three)
unfolding three
zeros_are zero le = (refl, none_is_bytes)
zeros_are (suc zero) le = (refl, more_bytes [] none_is_bytes)
zeros_are (suc (suc zero)) le = (refl, more_bytes (0 ∷ []) (more_bytes [] none_is_bytes))
zeros_are (suc (suc (suc zero))) le = (refl, more_bytes (0 ∷ 0 ∷ []) (more_bytes (0 ∷ []) (more_bytes [] none_is_bytes)))
zeros_are (suc (suc (suc (suc n)))) le = absurd (omega arith)

pub padding_is : (pc : ℕ) → IsPadding pc (zeros pc)
unfolding three
padding_is pc = zeros_are (padding pc) (omega arith)
