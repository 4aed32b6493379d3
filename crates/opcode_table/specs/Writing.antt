-- The spelling that is written where an instruction has several: the shortest. Bytes of padding are 0.
use Rattle.std.specs.Prelude.{ℕ, Bool, ◌&&◌, ℤ, pos, negsuc, ◌+ℤ◌, ◌-ℤ◌, List, [], ◌∷◌, ◌++◌, length, take, nat_lt, if◌then◌else◌}
use Rattle.std.specs.Int.{w8, w16, w32, cast_unsigned, to_be_bytes}
use Rattle.std.specs.Int.RustNames.{FitsSigned}
use Rattle.std.specs.List.{flat_map}
use Rattle.opcode_table.specs.declared.opcodes.OperandForm.{OperandForm}
use Rattle.opcode_table.specs.declared.opcodes.OperandForm.TheVariants as form
use Rattle.opcode_table.specs.declared.raw_insn.RawInsn.{RawInsn}
use Rattle.opcode_table.specs.declared.raw_insn.RawInsn.TheVariants.{Plain, Byte, Short, Local, Inc, Pool, Jump, Table, Lookup, Interface, NewArray, Multi}
use Rattle.opcode_table.specs.Opcodes.{form_of}
use Rattle.opcode_table.specs.Fields.{padding}

-- numbers, the highest byte first, and signed ones in two's complement
unfoldable pub u16_bytes : ℕ → List ℕ
u16_bytes n = to_be_bytes w16 n

unfoldable pub i8_bytes : ℤ → List ℕ
i8_bytes n = cast_unsigned w8 n ∷ []

unfoldable pub i16_bytes : ℤ → List ℕ
i16_bytes n = to_be_bytes w16 (cast_unsigned w16 n)

unfoldable pub i32_bytes : ℤ → List ℕ
i32_bytes n = to_be_bytes w32 (cast_unsigned w32 n)

abbrev pub row_bytes : ℤ × ℤ → List ℕ
row_bytes row = i32_bytes row.0 ++ i32_bytes row.1

-- from -128 to 127
abbrev pub fits_i8 : ℤ → Bool
fits_i8 (pos n) = nat_lt n 128
fits_i8 (negsuc n) = nat_lt n 128

abbrev pub zeros : ℕ → List ℕ
zeros pc = take (padding pc) (0 ∷ 0 ∷ 0 ∷ [])

-- `ldc` alone has an index of one byte, `goto_w` alone an offset of four
abbrev pub index_bytes : OperandForm → ℕ → List ℕ
index_bytes form.PoolByte index = index ∷ []
index_bytes _ index = u16_bytes index

abbrev pub offset_bytes : OperandForm → ℤ → List ℕ
offset_bytes form.WideJump offset = i32_bytes offset
offset_bytes _ offset = i16_bytes offset

-- 196 is `wide`, 132 `iinc`, 170 `tableswitch`, 171 `lookupswitch`, 185 `invokeinterface`, 188 `newarray`, 197 `multianewarray`
unfoldable pub spelling : ℕ → RawInsn → List ℕ
spelling pc (Plain op) = op ∷ []
spelling pc (Byte op n) = op ∷ i8_bytes n
spelling pc (Short op n) = op ∷ i16_bytes n
spelling pc (Local op local) = if nat_lt local 256 then op ∷ local ∷ [] else 196 ∷ op ∷ u16_bytes local
spelling pc (Inc local step) = if nat_lt local 256 && fits_i8 step then 132 ∷ local ∷ i8_bytes step else 196 ∷ 132 ∷ (u16_bytes local ++ i16_bytes step)
spelling pc (Pool op index) = op ∷ index_bytes (form_of op) index
spelling pc (Jump op offset) = op ∷ offset_bytes (form_of op) offset
spelling pc (Table low default offsets) =
    170 ∷ (zeros pc ++ i32_bytes default ++ i32_bytes low ++ i32_bytes (low +ℤ pos (length offsets) -ℤ pos 1) ++ flat_map i32_bytes offsets)
spelling pc (Lookup default rows) = 171 ∷ (zeros pc ++ i32_bytes default ++ i32_bytes (pos (length rows)) ++ flat_map row_bytes rows)
spelling pc (Interface index count) = 185 ∷ (u16_bytes index ++ count ∷ 0 ∷ [])
spelling pc (NewArray ty) = 188 ∷ ty ∷ []
spelling pc (Multi index dimensions) = 197 ∷ (u16_bytes index ++ dimensions ∷ [])

-- numbers of 32 bits
abbrev pub FitsI32 : ℤ → Type 0
FitsI32 n = FitsSigned w32 n

abbrev pub RowFits : ℤ × ℤ → Type 0
RowFits row = FitsSigned w32 row.0 × FitsSigned w32 row.1
