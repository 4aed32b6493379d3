-- What is judged of the bytes from an opcode at pc on, and in which order. Places count from the opcode.
use Rattle.std.specs.Prelude.{◌≡◌, ℕ, zero, suc, ◌+◌, ◌*◌, ◌<◌, ◌≤◌, Bool, true, false, not, ◌&&◌, ◌||◌, IsTrue, unsigned_abs, int_lt, int_le, ◌-ℤ◌, List, length, ◌⊎◌, Result, Ok, Err, nat_lt, nat_le, ◌==◌, if◌then◌else◌}
use Rattle.std.specs.Int.{is_negative}
use Rattle.opcode_table.specs.declared.code_stop.CodeStop.{CodeStop}
use Rattle.opcode_table.specs.declared.code_stop.CodeStop.TheVariants as stop
use Rattle.opcode_table.specs.declared.opcodes.OperandForm.{OperandForm}
use Rattle.opcode_table.specs.declared.opcodes.OperandForm.TheVariants as form
use Rattle.opcode_table.specs.declared.raw_insn.RawInsn.{RawInsn}
use Rattle.opcode_table.specs.declared.raw_insn.RawInsn.TheVariants as insn
use Rattle.opcode_table.specs.Opcodes.{form_of}
use Rattle.opcode_table.specs.Fields.{u8_at, u16_at, i8_at, i16_at, i32_at, offsets_at, rows_at, padding}

-- how many bytes an instruction of the form has in any case, its opcode and padding counted
abbrev pub fixed_size : ℕ → OperandForm → ℕ
fixed_size pc form.Unknown = 1
fixed_size pc form.OutOfScope = 1
fixed_size pc form.Empty = 1
fixed_size pc form.SignedByte = 2
fixed_size pc form.SignedShort = 3
fixed_size pc form.PoolByte = 2
fixed_size pc form.Pool = 3
fixed_size pc form.Local = 2
fixed_size pc form.Increment = 3
fixed_size pc form.Jump = 3
fixed_size pc form.WideJump = 5
fixed_size pc form.Table = 13 + padding pc
fixed_size pc form.Lookup = 9 + padding pc
fixed_size pc form.Interface = 5
fixed_size pc form.ArrayType = 2
fixed_size pc form.Dimensions = 4
fixed_size pc form.Wide = 2

-- the opcodes that may stand behind `wide`
abbrev pub may_be_wide : OperandForm → Bool
may_be_wide form.Local = true
may_be_wide form.Increment = true
may_be_wide _ = false

-- an operand that its instruction does not allow, among the bytes that stand there in any case
abbrev pub has_bad_operand : ℕ → List ℕ → OperandForm → Bool
has_bad_operand pc text form.Lookup = is_negative (i32_at text (5 + padding pc))
has_bad_operand pc text form.Interface = (u8_at text 3 == 0) || not (u8_at text 4 == 0)
has_bad_operand pc text form.ArrayType = nat_lt (u8_at text 1) 4 || nat_lt 11 (u8_at text 1)
has_bad_operand pc text form.Dimensions = u8_at text 3 == 0
has_bad_operand pc text form.Wide = not (may_be_wide (form_of (u8_at text 1)))
has_bad_operand pc text _ = false

-- of n rows from a place on, one that has its whole key in the text, and whose key is not above the key of the row before it
unfoldable pub has_low_key : List ℕ → ℕ → ℕ → Bool
has_low_key text at zero = false
has_low_key text at (suc zero) = false
has_low_key text at (suc (suc n)) = (nat_le (at + 12) (length text) && int_le (i32_at text (at + 8)) (i32_at text at)) || has_low_key text (at + 8) (suc n)

-- low above high, or keys that do not ascend
abbrev pub is_out_of_order : ℕ → List ℕ → OperandForm → Bool
is_out_of_order pc text form.Table = int_lt (i32_at text (9 + padding pc)) (i32_at text (5 + padding pc))
is_out_of_order pc text form.Lookup = has_low_key text (9 + padding pc) (unsigned_abs (i32_at text (5 + padding pc)))
is_out_of_order pc text _ = false

abbrev pub wide_size : OperandForm → ℕ
wide_size form.Increment = 6
wide_size _ = 4

-- how many bytes the instruction has, its table counted
abbrev pub whole_size : ℕ → List ℕ → OperandForm → ℕ
whole_size pc text form.Table = 13 + padding pc + 4 * (unsigned_abs (i32_at text (9 + padding pc) -ℤ i32_at text (5 + padding pc)) + 1)
whole_size pc text form.Lookup = 9 + padding pc + 8 * unsigned_abs (i32_at text (5 + padding pc))
whole_size pc text form.Wide = wide_size (form_of (u8_at text 1))
whole_size pc text f = fixed_size pc f

abbrev pub wide_insn : List ℕ → OperandForm → RawInsn
wide_insn text form.Increment = insn.Inc (u16_at text 2) (i16_at text 4)
wide_insn text _ = insn.Local (u8_at text 1) (u16_at text 2)

-- the instruction, where nothing is wrong
abbrev pub insn_of : ℕ → List ℕ → OperandForm → RawInsn
insn_of pc text form.SignedByte = insn.Byte (u8_at text 0) (i8_at text 1)
insn_of pc text form.SignedShort = insn.Short (u8_at text 0) (i16_at text 1)
insn_of pc text form.PoolByte = insn.Pool (u8_at text 0) (u8_at text 1)
insn_of pc text form.Pool = insn.Pool (u8_at text 0) (u16_at text 1)
insn_of pc text form.Local = insn.Local (u8_at text 0) (u8_at text 1)
insn_of pc text form.Increment = insn.Inc (u8_at text 1) (i8_at text 2)
insn_of pc text form.Jump = insn.Jump (u8_at text 0) (i16_at text 1)
insn_of pc text form.WideJump = insn.Jump (u8_at text 0) (i32_at text 1)
insn_of pc text form.Table = insn.Table (i32_at text (5 + padding pc)) (i32_at text (1 + padding pc)) (offsets_at text (13 + padding pc) (unsigned_abs (i32_at text (9 + padding pc) -ℤ i32_at text (5 + padding pc)) + 1))
insn_of pc text form.Lookup = insn.Lookup (i32_at text (1 + padding pc)) (rows_at text (9 + padding pc) (unsigned_abs (i32_at text (5 + padding pc))))
insn_of pc text form.Interface = insn.Interface (u16_at text 1) (u8_at text 3)
insn_of pc text form.ArrayType = insn.NewArray (u8_at text 1)
insn_of pc text form.Dimensions = insn.Multi (u16_at text 1) (u8_at text 3)
insn_of pc text form.Wide = wide_insn text (form_of (u8_at text 1))
insn_of pc text _ = insn.Plain (u8_at text 0)

-- a refusal where the test holds
abbrev pub refused : {A : Type 0} → Bool → CodeStop → Result A CodeStop → Result A CodeStop
refused test why otherwise = if test then Err why else otherwise

-- the order in which an instruction of a known form is judged
abbrev pub operands : ℕ → List ℕ → OperandForm → Result (RawInsn × ℕ) CodeStop
operands pc text f =
    refused (nat_lt (length text) (fixed_size pc f)) stop.Short (
    refused (has_bad_operand pc text f) stop.Operand (
    refused (is_out_of_order pc text f) stop.Order (
    refused (nat_lt (length text) (whole_size pc text f)) stop.Short (
    Ok (insn_of pc text f, whole_size pc text f)))))

-- the opcode is judged alone, before all else
unfoldable pub judged : ℕ → List ℕ → OperandForm → Result (RawInsn × ℕ) CodeStop
judged pc text form.Unknown = Err (stop.Unknown (u8_at text 0))
judged pc text form.OutOfScope = Err (stop.OutOfScope (u8_at text 0))
judged pc text f = operands pc text f

-- the operands of the opcode that a text begins with
abbrev pub form_at : List ℕ → OperandForm
form_at text = form_of (u8_at text 0)

abbrev pub decoding : ℕ → List ℕ → Result (RawInsn × ℕ) CodeStop
decoding pc text = judged pc text (form_at text)

-- What a function returned is what is judged, or memory ran out for an instruction that is there.
abbrev pub Answers : Result (RawInsn × ℕ) CodeStop → Result (RawInsn × ℕ) CodeStop → Type 0
Answers (Ok found) expected = expected ≡ Ok found
Answers (Err stop.Memory) expected = (found : RawInsn × ℕ) × (expected ≡ Ok found)
Answers (Err why) expected = expected ≡ Err why

-- the causes of Short, Operand and Order
abbrev pub IsShort : ℕ → List ℕ → OperandForm → Type 0
IsShort pc text f =
    (length text < fixed_size pc f)
    ⊎ ((has_bad_operand pc text f ≡ false) × (is_out_of_order pc text f ≡ false) × (length text < whole_size pc text f))

abbrev pub IsBadOperand : ℕ → List ℕ → OperandForm → Type 0
IsBadOperand pc text f = (fixed_size pc f ≤ length text) × IsTrue (has_bad_operand pc text f)

abbrev pub IsOutOfOrder : ℕ → List ℕ → OperandForm → Type 0
IsOutOfOrder pc text f = (fixed_size pc f ≤ length text) × (has_bad_operand pc text f ≡ false) × IsTrue (is_out_of_order pc text f)
