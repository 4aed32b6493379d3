-- What is written spells the instruction.
use Rattle.std.proofs.Common.{◌≡◌, ◌⊎◌, inl, inr, ℕ, ◌^◌, ◌<◌, Bool, true, false, [], ◌∷◌, ◌++◌, refl, ap, ◌∙◌, arith, rules}
use Rattle.std.specs.Prelude.{ℤ, pos, negsuc, nat_lt, ◌&&◌, if◌then◌else◌}
use Rattle.std.specs.Int.{w8, w16, w32, cast_signed, cast_unsigned, from_be_bytes, to_be_bytes}
use Rattle.std.specs.Int.RustNames.{FitsSigned}
use Rattle.std.proofs.lemmas.Bool.{ltb-true}
use Rattle.std.proofs.lemmas.Int.{ints, to_z-of_z}
use Rattle.std.proofs.lemmas.Nat.{from_be_bytes-to_be_bytes_2, from_be_bytes-to_be_bytes_4}
use Rattle.opcode_table.specs.declared.opcodes.OperandForm.{OperandForm}
use Rattle.opcode_table.specs.declared.opcodes.OperandForm.TheVariants as form
use Rattle.opcode_table.specs.declared.raw_insn.RawInsn.TheVariants.{Plain, Byte, Short, Local, Inc, Pool, Jump, Interface, NewArray, Multi}
use Rattle.opcode_table.specs.Opcodes.{opcodes, form_of}
use Rattle.opcode_table.specs.Fields.{u8_at, u16_at, i8_at, i16_at, i32_at}
use Rattle.opcode_table.specs.Spelling.{SpellsLocal, SpellsInc, SpellsPool, SpellsJump, Spells, IsWellFormed}
use Rattle.opcode_table.specs.Writing.{u16_bytes, i8_bytes, i16_bytes, i32_bytes, fits_i8, index_bytes, offset_bytes, spelling}

-- ---- numbers are read back

bits_8 : (z : ℤ) → FitsSigned w8 z → cast_signed w8 (cast_unsigned w8 z) ≡ z
bits_8 z fits = to_z-of_z w8 z fits

fits_16 : (z : ℤ) → FitsSigned w16 z → cast_unsigned w16 z < 2 ^ 16
fits_16 (pos n) fits = omega (arith, ints)
fits_16 (negsuc n) fits = omega (arith, ints)

fits_32 : (z : ℤ) → FitsSigned w32 z → cast_unsigned w32 z < 2 ^ 32
fits_32 (pos n) fits = omega (arith, ints)
fits_32 (negsuc n) fits = omega (arith, ints)

back_16 : (z : ℤ) → FitsSigned w16 z → cast_signed w16 (from_be_bytes w16 (to_be_bytes w16 (cast_unsigned w16 z))) ≡ z
back_16 z fits = ap (cast_signed w16) (from_be_bytes-to_be_bytes_2 (cast_unsigned w16 z) (fits_16 z fits)) ∙ to_z-of_z w16 z fits

pub back_32 : (z : ℤ) → FitsSigned w32 z → cast_signed w32 (from_be_bytes w32 (to_be_bytes w32 (cast_unsigned w32 z))) ≡ z
back_32 z fits = ap (cast_signed w32) (from_be_bytes-to_be_bytes_4 (cast_unsigned w32 z) (fits_32 z fits)) ∙ to_z-of_z w32 z fits

-- ---- the opcodes that are written by their number

wide_is : form_of 196 ≡ form.Wide
unfolding form_of opcodes
wide_is = refl

increment_is : form_of 132 ≡ form.Increment
unfolding form_of opcodes
increment_is = refl

pub table_is : form_of 170 ≡ form.Table
unfolding form_of opcodes
table_is = refl

pub lookup_is : form_of 171 ≡ form.Lookup
unfolding form_of opcodes
lookup_is = refl

interface_is : form_of 185 ≡ form.Interface
unfolding form_of opcodes
interface_is = refl

array_type_is : form_of 188 ≡ form.ArrayType
unfolding form_of opcodes
array_type_is = refl

dimensions_is : form_of 197 ≡ form.Dimensions
unfolding form_of opcodes
dimensions_is = refl

-- ---- instructions without a table

pub plain_spelled : (pc op : ℕ) → IsWellFormed (Plain op) → Spells pc (Plain op) (spelling pc (Plain op))
unfolding Spells spelling u8_at
plain_spelled pc op h = ((refl, h), refl)

pub byte_spelled : (pc op : ℕ) (n : ℤ) → FitsSigned w8 n → IsWellFormed (Byte op n) → Spells pc (Byte op n) (spelling pc (Byte op n))
unfolding Spells spelling u8_at i8_at i8_bytes
byte_spelled pc op n fits h = ((refl, h), refl, bits_8 n fits)

pub short_spelled : (pc op : ℕ) (n : ℤ) → FitsSigned w16 n → IsWellFormed (Short op n) → Spells pc (Short op n) (spelling pc (Short op n))
unfolding Spells spelling u8_at i16_at i16_bytes
short_spelled pc op n fits h = ((refl, h), refl, back_16 n fits)

local_by : (b : Bool) (op local : ℕ) → local < 2 ^ 16 → form_of op ≡ form.Local → SpellsLocal (if b then op ∷ local ∷ [] else 196 ∷ op ∷ u16_bytes local) op local
unfolding u8_at u16_at u16_bytes
local_by true op local fits h = inl ((refl, h), refl, refl)
local_by false op local fits h = inr ((refl, wide_is), h, refl, from_be_bytes-to_be_bytes_2 local fits)

pub local_spelled : (pc op local : ℕ) → local < 2 ^ 16 → IsWellFormed (Local op local) → Spells pc (Local op local) (spelling pc (Local op local))
unfolding Spells spelling
local_spelled pc op local fits h = local_by (nat_lt local 256) op local fits h

both : (a b : Bool) → a && b ≡ true → b ≡ true
both true b e = e
both false b e = absurd cc

i8_fits : (z : ℤ) → fits_i8 z ≡ true → FitsSigned w8 z
i8_fits (pos n) e = let lt : n < 128 = ltb-true n 128 e in search (rules, arith)
i8_fits (negsuc n) e = let lt : n < 128 = ltb-true n 128 e in search (rules, arith)

increment_by : (b : Bool) (local : ℕ) (step : ℤ) → local < 2 ^ 16 → FitsSigned w16 step → (b ≡ true → FitsSigned w8 step) → SpellsInc (if b then 132 ∷ local ∷ i8_bytes step else 196 ∷ 132 ∷ (u16_bytes local ++ i16_bytes step)) local step
unfolding u8_at u16_at i8_at i16_at u16_bytes i8_bytes i16_bytes
increment_by true local step fits wide small = inl ((refl, increment_is), refl, bits_8 step (small refl))
increment_by false local step fits wide small = inr ((refl, wide_is), increment_is, from_be_bytes-to_be_bytes_2 local fits, back_16 step wide)

pub increment_spelled : (pc local : ℕ) (step : ℤ) → local < 2 ^ 16 → FitsSigned w16 step → Spells pc (Inc local step) (spelling pc (Inc local step))
unfolding Spells spelling
increment_spelled pc local step fits wide = increment_by (nat_lt local 256 && fits_i8 step) local step fits wide (λ e. i8_fits step (both (nat_lt local 256) (fits_i8 step) e))

index_by : (f : OperandForm) (op index : ℕ) → index < 2 ^ 16 → form_of op ≡ f → (f ≡ form.PoolByte) ⊎ (f ≡ form.Pool) → SpellsPool (op ∷ index_bytes f index) op index
unfolding u8_at u16_at u16_bytes
index_by form.PoolByte op index fits e h = inl ((refl, e), refl, refl)
index_by form.Pool op index fits e h = inr ((refl, e), refl, from_be_bytes-to_be_bytes_2 index fits)
index_by _ op index fits e h = absurd (elim h [ inl k ↦ cc | inr k ↦ cc ])

pub index_spelled : (pc op index : ℕ) → index < 2 ^ 16 → IsWellFormed (Pool op index) → Spells pc (Pool op index) (spelling pc (Pool op index))
unfolding Spells spelling
index_spelled pc op index fits h = index_by (form_of op) op index fits refl (elim h [ inl k ↦ inl k.0 | inr k ↦ inr k ])

offset_by : (f : OperandForm) (op : ℕ) (offset : ℤ) → FitsSigned w32 offset → form_of op ≡ f → ((f ≡ form.Jump) × FitsSigned w16 offset) ⊎ (f ≡ form.WideJump) → SpellsJump (op ∷ offset_bytes f offset) op offset
unfolding u8_at i16_at i32_at i16_bytes i32_bytes
offset_by form.WideJump op offset fits e h = inr ((refl, e), refl, back_32 offset fits)
offset_by form.Jump op offset fits e (inl h) = inl ((refl, e), refl, back_16 offset h.1)
offset_by form.Jump op offset fits e (inr h) = absurd cc
offset_by _ op offset fits e h = absurd (elim h [ inl k ↦ let d = k.0 in cc | inr k ↦ cc ])

pub offset_spelled : (pc op : ℕ) (offset : ℤ) → FitsSigned w32 offset → IsWellFormed (Jump op offset) → Spells pc (Jump op offset) (spelling pc (Jump op offset))
unfolding Spells spelling
offset_spelled pc op offset fits h = offset_by (form_of op) op offset fits refl h

pub interface_spelled : (pc index count : ℕ) → index < 2 ^ 16 → IsWellFormed (Interface index count) → Spells pc (Interface index count) (spelling pc (Interface index count))
unfolding Spells spelling u8_at u16_at u16_bytes
interface_spelled pc index count fits h = ((refl, interface_is), from_be_bytes-to_be_bytes_2 index fits, refl, h, refl)

pub array_type_spelled : (pc ty : ℕ) → IsWellFormed (NewArray ty) → Spells pc (NewArray ty) (spelling pc (NewArray ty))
unfolding Spells spelling u8_at
array_type_spelled pc ty h = ((refl, array_type_is), refl, h.0, h.1)

pub dimensions_spelled : (pc index dimensions : ℕ) → index < 2 ^ 16 → IsWellFormed (Multi index dimensions) → Spells pc (Multi index dimensions) (spelling pc (Multi index dimensions))
unfolding Spells spelling u8_at u16_at u16_bytes
dimensions_spelled pc index dimensions fits h = ((refl, dimensions_is), from_be_bytes-to_be_bytes_2 index fits, refl, h)
