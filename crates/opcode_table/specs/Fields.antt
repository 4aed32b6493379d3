-- The numbers in the bytes of code, the highest byte first (JVMS 4 and 6.5).
use Rattle.std.specs.Prelude.{ℕ, zero, suc, ◌+◌, ◌-◌, ◌%◌, ℤ, List, [], ◌∷◌, slice_index}
use Rattle.std.specs.Int.{w8, w16, w32, cast_signed, from_be_bytes}

-- an unsigned byte at a place, and an unsigned number of two bytes
unfoldable pub u8_at : List ℕ → ℕ → ℕ
u8_at text at = slice_index text at

unfoldable pub u16_at : List ℕ → ℕ → ℕ
u16_at text at = from_be_bytes w16 (slice_index text at ∷ slice_index text (at + 1) ∷ [])

-- signed numbers of one, two and four bytes, in two's complement
unfoldable pub i8_at : List ℕ → ℕ → ℤ
i8_at text at = cast_signed w8 (slice_index text at)

unfoldable pub i16_at : List ℕ → ℕ → ℤ
i16_at text at = cast_signed w16 (from_be_bytes w16 (slice_index text at ∷ slice_index text (at + 1) ∷ []))

unfoldable pub i32_at : List ℕ → ℕ → ℤ
i32_at text at = cast_signed w32 (from_be_bytes w32 (slice_index text at ∷ slice_index text (at + 1) ∷ slice_index text (at + 2) ∷ slice_index text (at + 3) ∷ []))

-- n offsets of four bytes each, and n pairs of a key and an offset
unfoldable pub offsets_at : List ℕ → ℕ → ℕ → List ℤ
offsets_at text at zero = []
offsets_at text at (suc n) = i32_at text at ∷ offsets_at text (at + 4) n

unfoldable pub rows_at : List ℕ → ℕ → ℕ → List (ℤ × ℤ)
rows_at text at zero = []
rows_at text at (suc n) = (i32_at text at, i32_at text (at + 4)) ∷ rows_at text (at + 8) n

-- how many bytes stand between a switch's opcode at pc and its operands, which begin at a multiple of four
abbrev pub padding : ℕ → ℕ
padding pc = 3 - pc % 4
