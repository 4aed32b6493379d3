-- The numbers of the machine: ints of 32 bits and longs of 64 in two's complement (JVMS 2.3.1, 2.11, 6.5). A number is
-- an integer in its type's range; arithmetic keeps the bits of a result that the type holds.
use Rattle.std.specs.Prelude.{ℕ, ◌/◌, ◌%◌, ◌^◌, ℤ, pos, negsuc, Bool, not, ◌||◌, int_lt, int_rem, if◌then◌else◌}
use Rattle.std.specs.Int.{Width as Bits, w8, w16, w32, w64, cast_signed, cast_unsigned, int_wrapping_add, int_wrapping_sub, int_wrapping_mul, int_wrapping_div, int_wrapping_neg, int_bit_and, int_bit_or, int_bit_xor, int_shl, int_shr}
use Rattle.class_model.specs.declared.insn.Width.{Width}
use Rattle.class_model.specs.declared.insn.Width.TheVariants as width
use Rattle.class_model.specs.declared.insn.BinOp.{BinOp}
use Rattle.class_model.specs.declared.insn.BinOp.TheVariants.{Add, Sub, Mul, Div, Rem, And, Or, Xor}
use Rattle.class_model.specs.declared.insn.ShiftOp.{ShiftOp}
use Rattle.class_model.specs.declared.insn.ShiftOp.TheVariants.{Left, Right, Unsigned}
use Rattle.class_model.specs.declared.insn.Conv.{Conv}
use Rattle.class_model.specs.declared.insn.Conv.TheVariants.{IntLong, LongInt, IntByte, IntChar, IntShort}
use Rattle.class_model.specs.declared.insn.Cond.{Cond}
use Rattle.class_model.specs.declared.insn.Cond.TheVariants.{Eq, Ne, Lt, Ge, Gt, Le}

abbrev pub bits_of : Width → Bits
bits_of width.Int = w32
bits_of width.Long = w64

-- the bitwise or of two ints, and so of two tags
abbrev pub int_or : ℤ → ℤ → ℤ
int_or a b = int_bit_or w32 a b

-- iadd to ixor and ladd to lxor (JVMS 6.5). A division by 0 is judged before; the least number divided by -1 is itself.
abbrev pub number_of : Width → BinOp → ℤ → ℤ → ℤ
number_of w Add a b = int_wrapping_add (bits_of w) a b
number_of w Sub a b = int_wrapping_sub (bits_of w) a b
number_of w Mul a b = int_wrapping_mul (bits_of w) a b
number_of w Div a b = int_wrapping_div (bits_of w) a b
number_of w Rem a b = int_rem a b
number_of w And a b = int_bit_and (bits_of w) a b
number_of w Or a b = int_bit_or (bits_of w) a b
number_of w Xor a b = int_bit_xor (bits_of w) a b

-- the lowest 5 bits of a shift's count, or the lowest 6 for a long (JVMS 6.5, ishl and lshl)
abbrev pub count_of : Width → ℤ → ℕ
count_of width.Int b = cast_unsigned w32 b % 32
count_of width.Long b = cast_unsigned w32 b % 64

abbrev pub shifted : Width → ShiftOp → ℤ → ℤ → ℤ
shifted w Left a b = int_shl (bits_of w) a (count_of w b)
shifted w Right a b = int_shr a (count_of w b)
shifted w Unsigned a b = cast_signed (bits_of w) (cast_unsigned (bits_of w) a / 2 ^ count_of w b)

abbrev pub negated : Width → ℤ → ℤ
negated w a = int_wrapping_neg (bits_of w) a

abbrev pub as_byte : ℤ → ℤ
as_byte v = cast_signed w8 (cast_unsigned w32 v % 2 ^ 8)

abbrev pub as_char : ℤ → ℤ
as_char v = pos (cast_unsigned w32 v % 2 ^ 16)

abbrev pub as_short : ℤ → ℤ
as_short v = cast_signed w16 (cast_unsigned w32 v % 2 ^ 16)

-- the lowest bit: what a boolean keeps of an int (this project's own)
abbrev pub as_boolean : ℤ → ℤ
as_boolean v = pos (cast_unsigned w32 v % 2)

-- the lowest 8 bits: what `sys/Native.write` appends to the console (this project's own)
abbrev pub low_byte : ℤ → ℕ
low_byte v = cast_unsigned w32 v % 256

abbrev pub converted : Conv → ℤ → ℤ
converted IntLong v = v
converted LongInt v = cast_signed w32 (cast_unsigned w64 v % 2 ^ 32)
converted IntByte v = as_byte v
converted IntChar v = as_char v
converted IntShort v = as_short v

-- the width that a conversion takes, and the one that it gives
abbrev pub taken_width : Conv → Width
taken_width LongInt = width.Long
taken_width IntLong = width.Int
taken_width IntByte = width.Int
taken_width IntChar = width.Int
taken_width IntShort = width.Int

abbrev pub given_width : Conv → Width
given_width IntLong = width.Long
given_width LongInt = width.Int
given_width IntByte = width.Int
given_width IntChar = width.Int
given_width IntShort = width.Int

abbrev pub is_same : ℤ → ℤ → Bool
is_same a b = not (int_lt a b || int_lt b a)

-- lcmp (JVMS 6.5)
abbrev pub compared : ℤ → ℤ → ℤ
compared a b = if int_lt a b then negsuc 0 else (if int_lt b a then pos 1 else pos 0)

-- the conditions of if<cond> and if_icmp<cond> (JVMS 6.5)
abbrev pub holds : Cond → ℤ → ℤ → Bool
holds Eq a b = is_same a b
holds Ne a b = not (is_same a b)
holds Lt a b = int_lt a b
holds Ge a b = not (int_lt a b)
holds Gt a b = int_lt b a
holds Le a b = not (int_lt b a)
