-- The symbolic instruction of each opcode (JVMS 6.5), grouped as in JVMS chapter 7.
use Rattle.std.specs.Prelude.{ℕ, ◌-◌, ◌==◌, ◌&&◌, nat_le, pos, ◌-ℤ◌, Bool, true, false, Option, Some, None, if◌then◌else◌}
use Rattle.class_model.specs.declared.insn.Insn.{Insn}
use Rattle.class_model.specs.declared.insn.Insn.TheVariants.{Nop, PushNull, PushInt, PushLong, Load, Store, ArrayLoad, ArrayStore, Stack, Bin, Shift, Neg, Convert, Lcmp, If, IfInt, IfRef, IfNull, Goto, Return, ArrayLength, Athrow}
use Rattle.class_model.specs.declared.insn.Kind.TheVariants as kinds
use Rattle.class_model.specs.declared.insn.Elem.TheVariants as elems
use Rattle.class_model.specs.declared.insn.Width.TheVariants as widths
use Rattle.class_model.specs.declared.insn.Cond.{Cond}
use Rattle.class_model.specs.declared.insn.Cond.TheVariants.{Eq, Ne, Lt, Ge, Gt, Le}
use Rattle.class_model.specs.declared.insn.BinOp.TheVariants.{Add, Sub, Mul, Div, Rem, And, Or, Xor}
use Rattle.class_model.specs.declared.insn.ShiftOp.TheVariants as shifts
use Rattle.class_model.specs.declared.insn.Conv.TheVariants.{IntLong, LongInt, IntByte, IntChar, IntShort}
use Rattle.class_model.specs.declared.insn.StackOp.TheVariants as stack
use Rattle.class_model.specs.declared.types.Primitive.{Primitive}
use Rattle.class_model.specs.declared.types.Primitive.TheVariants as primitives

-- opcodes that count up from a first to a last
abbrev pub within : ℕ → ℕ → ℕ → Bool
within first last opcode = nat_le first opcode && nat_le opcode last

-- ---- opcodes without operand

-- aconst_null, iconst_m1 to iconst_5, lconst_0 and lconst_1, iload_0 to 3, lload_0 to 3, aload_0 to 3, and loads from arrays
unfoldable pub constant_or_load : ℕ → Option Insn
constant_or_load opcode =
    if opcode == 0 then Some Nop
    else if opcode == 1 then Some PushNull
    else if within 2 8 opcode then Some (PushInt (pos opcode -ℤ pos 3))
    else if within 9 10 opcode then Some (PushLong (pos opcode -ℤ pos 9))
    else if within 26 29 opcode then Some (Load kinds.Int (opcode - 26))
    else if within 30 33 opcode then Some (Load kinds.Long (opcode - 30))
    else if within 42 45 opcode then Some (Load kinds.Ref (opcode - 42))
    else if opcode == 46 then Some (ArrayLoad elems.Int)
    else if opcode == 47 then Some (ArrayLoad elems.Long)
    else if opcode == 50 then Some (ArrayLoad elems.Ref)
    else if opcode == 51 then Some (ArrayLoad elems.Byte)
    else if opcode == 52 then Some (ArrayLoad elems.Char)
    else if opcode == 53 then Some (ArrayLoad elems.Short)
    else None

-- istore_0 to 3, lstore_0 to 3, astore_0 to 3, stores to arrays, and the operand stack
unfoldable pub store_or_stack : ℕ → Option Insn
store_or_stack opcode =
    if within 59 62 opcode then Some (Store kinds.Int (opcode - 59))
    else if within 63 66 opcode then Some (Store kinds.Long (opcode - 63))
    else if within 75 78 opcode then Some (Store kinds.Ref (opcode - 75))
    else if opcode == 79 then Some (ArrayStore elems.Int)
    else if opcode == 80 then Some (ArrayStore elems.Long)
    else if opcode == 83 then Some (ArrayStore elems.Ref)
    else if opcode == 84 then Some (ArrayStore elems.Byte)
    else if opcode == 85 then Some (ArrayStore elems.Char)
    else if opcode == 86 then Some (ArrayStore elems.Short)
    else if opcode == 87 then Some (Stack stack.Pop)
    else if opcode == 88 then Some (Stack stack.Pop2)
    else if opcode == 89 then Some (Stack stack.Dup)
    else if opcode == 90 then Some (Stack stack.DupX1)
    else if opcode == 91 then Some (Stack stack.DupX2)
    else if opcode == 92 then Some (Stack stack.Dup2)
    else if opcode == 93 then Some (Stack stack.Dup2X1)
    else if opcode == 94 then Some (Stack stack.Dup2X2)
    else if opcode == 95 then Some (Stack stack.Swap)
    else None

-- arithmetic on two numbers of one width
unfoldable pub binary : ℕ → Option Insn
binary opcode =
    if opcode == 96 then Some (Bin widths.Int Add)
    else if opcode == 97 then Some (Bin widths.Long Add)
    else if opcode == 100 then Some (Bin widths.Int Sub)
    else if opcode == 101 then Some (Bin widths.Long Sub)
    else if opcode == 104 then Some (Bin widths.Int Mul)
    else if opcode == 105 then Some (Bin widths.Long Mul)
    else if opcode == 108 then Some (Bin widths.Int Div)
    else if opcode == 109 then Some (Bin widths.Long Div)
    else if opcode == 112 then Some (Bin widths.Int Rem)
    else if opcode == 113 then Some (Bin widths.Long Rem)
    else if opcode == 126 then Some (Bin widths.Int And)
    else if opcode == 127 then Some (Bin widths.Long And)
    else if opcode == 128 then Some (Bin widths.Int Or)
    else if opcode == 129 then Some (Bin widths.Long Or)
    else if opcode == 130 then Some (Bin widths.Int Xor)
    else if opcode == 131 then Some (Bin widths.Long Xor)
    else None

-- negation, shifts, conversions and lcmp
unfoldable pub unary_or_shift : ℕ → Option Insn
unary_or_shift opcode =
    if opcode == 116 then Some (Neg widths.Int)
    else if opcode == 117 then Some (Neg widths.Long)
    else if opcode == 120 then Some (Shift widths.Int shifts.Left)
    else if opcode == 121 then Some (Shift widths.Long shifts.Left)
    else if opcode == 122 then Some (Shift widths.Int shifts.Right)
    else if opcode == 123 then Some (Shift widths.Long shifts.Right)
    else if opcode == 124 then Some (Shift widths.Int shifts.Unsigned)
    else if opcode == 125 then Some (Shift widths.Long shifts.Unsigned)
    else if opcode == 133 then Some (Convert IntLong)
    else if opcode == 136 then Some (Convert LongInt)
    else if opcode == 145 then Some (Convert IntByte)
    else if opcode == 146 then Some (Convert IntChar)
    else if opcode == 147 then Some (Convert IntShort)
    else if opcode == 148 then Some Lcmp
    else None

-- returns, arraylength and athrow
unfoldable pub control : ℕ → Option Insn
control opcode =
    if opcode == 172 then Some (Return (Some kinds.Int))
    else if opcode == 173 then Some (Return (Some kinds.Long))
    else if opcode == 176 then Some (Return (Some kinds.Ref))
    else if opcode == 177 then Some (Return None)
    else if opcode == 190 then Some ArrayLength
    else if opcode == 191 then Some Athrow
    else None

-- the instruction of an opcode that stands alone
unfoldable pub plain : ℕ → Option Insn
plain opcode =
    if nat_le opcode 53 then constant_or_load opcode
    else if nat_le opcode 95 then store_or_stack opcode
    else if nat_le opcode 115 then binary opcode
    else if nat_le opcode 125 then unary_or_shift opcode
    else if nat_le opcode 131 then binary opcode
    else if nat_le opcode 148 then unary_or_shift opcode
    else control opcode

-- ---- opcodes with operands

-- a load or a store that names its local: iload, lload, aload, istore, lstore, and astore
unfoldable pub local : ℕ → ℕ → Insn
local opcode slot =
    if opcode == 21 then Load kinds.Int slot
    else if opcode == 22 then Load kinds.Long slot
    else if opcode == 25 then Load kinds.Ref slot
    else if opcode == 54 then Store kinds.Int slot
    else if opcode == 55 then Store kinds.Long slot
    else Store kinds.Ref slot

-- a condition by its place among six opcodes: eq, ne, lt, ge, gt, le
abbrev pub condition : ℕ → Cond
condition n =
    if n == 0 then Eq
    else if n == 1 then Ne
    else if n == 2 then Lt
    else if n == 3 then Ge
    else if n == 4 then Gt
    else Le

-- a branch: ifeq to ifle, if_icmpeq to if_icmple, if_acmpeq and if_acmpne, ifnull and ifnonnull, and goto or goto_w
unfoldable pub branch : ℕ → ℕ → Insn
branch opcode target =
    if within 153 158 opcode then If (condition (opcode - 153)) target
    else if within 159 164 opcode then IfInt (condition (opcode - 159)) target
    else if opcode == 165 then IfRef true target
    else if opcode == 166 then IfRef false target
    else if opcode == 198 then IfNull true target
    else if opcode == 199 then IfNull false target
    else Goto target

-- the element type of newarray (JVMS table 6.5.newarray-A)
unfoldable pub element : ℕ → Option Primitive
element code =
    if code == 4 then Some primitives.Boolean
    else if code == 5 then Some primitives.Char
    else if code == 6 then Some primitives.Float
    else if code == 7 then Some primitives.Double
    else if code == 8 then Some primitives.Byte
    else if code == 9 then Some primitives.Short
    else if code == 10 then Some primitives.Int
    else if code == 11 then Some primitives.Long
    else None
