-- The opcode of each symbolic instruction (JVMS 6.5), by its shape.
use Rattle.std.specs.Prelude.{ℕ, ◌+◌, Bool, Option, Some, None, if◌then◌else◌}
use Rattle.class_model.specs.declared.insn.Kind.{Kind}
use Rattle.class_model.specs.declared.insn.Kind.TheVariants as kinds
use Rattle.class_model.specs.declared.insn.Elem.{Elem}
use Rattle.class_model.specs.declared.insn.Elem.TheVariants as elems
use Rattle.class_model.specs.declared.insn.Width.{Width}
use Rattle.class_model.specs.declared.insn.Width.TheVariants as widths
use Rattle.class_model.specs.declared.insn.Cond.{Cond}
use Rattle.class_model.specs.declared.insn.Cond.TheVariants as conds
use Rattle.class_model.specs.declared.insn.BinOp.{BinOp}
use Rattle.class_model.specs.declared.insn.BinOp.TheVariants as bins
use Rattle.class_model.specs.declared.insn.ShiftOp.{ShiftOp}
use Rattle.class_model.specs.declared.insn.ShiftOp.TheVariants as shifts
use Rattle.class_model.specs.declared.insn.Conv.{Conv}
use Rattle.class_model.specs.declared.insn.Conv.TheVariants as convs
use Rattle.class_model.specs.declared.insn.StackOp.{StackOp}
use Rattle.class_model.specs.declared.insn.StackOp.TheVariants as stack
use Rattle.class_model.specs.declared.insn.InvokeKind.{InvokeKind}
use Rattle.class_model.specs.declared.insn.InvokeKind.TheVariants as calls
use Rattle.class_model.specs.declared.types.Primitive.{Primitive}
use Rattle.class_model.specs.declared.types.Primitive.TheVariants as primitives

-- ---- locals: the opcode that names its local, and the one of local 0, behind which stand those of 1, 2 and 3

-- iload, lload and aload
abbrev pub load : Kind → ℕ
load kinds.Int = 21
load kinds.Long = 22
load kinds.Ref = 25

-- iload_0, lload_0 and aload_0
abbrev pub load_0 : Kind → ℕ
load_0 kinds.Int = 26
load_0 kinds.Long = 30
load_0 kinds.Ref = 42

-- istore, lstore and astore
abbrev pub store : Kind → ℕ
store kinds.Int = 54
store kinds.Long = 55
store kinds.Ref = 58

-- istore_0, lstore_0 and astore_0
abbrev pub store_0 : Kind → ℕ
store_0 kinds.Int = 59
store_0 kinds.Long = 63
store_0 kinds.Ref = 75

-- ---- arrays

-- iaload, laload, aaload, baload, caload and saload
abbrev pub array_load : Elem → ℕ
array_load elems.Int = 46
array_load elems.Long = 47
array_load elems.Ref = 50
array_load elems.Byte = 51
array_load elems.Char = 52
array_load elems.Short = 53

-- iastore, lastore, aastore, bastore, castore and sastore
abbrev pub array_store : Elem → ℕ
array_store elems.Int = 79
array_store elems.Long = 80
array_store elems.Ref = 83
array_store elems.Byte = 84
array_store elems.Char = 85
array_store elems.Short = 86

-- the element type of newarray (JVMS table 6.5.newarray-A)
abbrev pub element_code : Primitive → ℕ
element_code primitives.Boolean = 4
element_code primitives.Char = 5
element_code primitives.Float = 6
element_code primitives.Double = 7
element_code primitives.Byte = 8
element_code primitives.Short = 9
element_code primitives.Int = 10
element_code primitives.Long = 11

-- ---- the operand stack, and numbers

-- pop, pop2, dup, dup_x1, dup_x2, dup2, dup2_x1, dup2_x2 and swap
abbrev pub stack_op : StackOp → ℕ
stack_op stack.Pop = 87
stack_op stack.Pop2 = 88
stack_op stack.Dup = 89
stack_op stack.DupX1 = 90
stack_op stack.DupX2 = 91
stack_op stack.Dup2 = 92
stack_op stack.Dup2X1 = 93
stack_op stack.Dup2X2 = 94
stack_op stack.Swap = 95

-- the first for ints, the second for longs
abbrev pub by_width : ℕ → ℕ → Width → ℕ
by_width int long widths.Int = int
by_width int long widths.Long = long

abbrev pub bin : Width → BinOp → ℕ
bin width bins.Add = by_width 96 97 width
bin width bins.Sub = by_width 100 101 width
bin width bins.Mul = by_width 104 105 width
bin width bins.Div = by_width 108 109 width
bin width bins.Rem = by_width 112 113 width
bin width bins.And = by_width 126 127 width
bin width bins.Or = by_width 128 129 width
bin width bins.Xor = by_width 130 131 width

-- ineg and lneg
abbrev pub neg : Width → ℕ
neg width = by_width 116 117 width

abbrev pub shift : Width → ShiftOp → ℕ
shift width shifts.Left = by_width 120 121 width
shift width shifts.Right = by_width 122 123 width
shift width shifts.Unsigned = by_width 124 125 width

-- i2l, l2i, i2b, i2c and i2s
abbrev pub convert : Conv → ℕ
convert convs.IntLong = 133
convert convs.LongInt = 136
convert convs.IntByte = 145
convert convs.IntChar = 146
convert convs.IntShort = 147

-- ---- control

-- the place of a condition among six opcodes
abbrev pub place_of : Cond → ℕ
place_of conds.Eq = 0
place_of conds.Ne = 1
place_of conds.Lt = 2
place_of conds.Ge = 3
place_of conds.Gt = 4
place_of conds.Le = 5

-- ifeq, ifne, iflt, ifge, ifgt and ifle
abbrev pub if_zero : Cond → ℕ
if_zero cond = 153 + place_of cond

-- if_icmpeq, if_icmpne, if_icmplt, if_icmpge, if_icmpgt and if_icmple
abbrev pub if_int : Cond → ℕ
if_int cond = 159 + place_of cond

-- if_acmpeq and if_acmpne
abbrev pub if_ref : Bool → ℕ
if_ref same = if same then 165 else 166

-- ifnull and ifnonnull
abbrev pub if_null : Bool → ℕ
if_null null = if null then 198 else 199

-- goto_w where all of a method's are wide, else goto
abbrev pub goto : Bool → ℕ
goto wide = if wide then 200 else 167

-- return, ireturn, lreturn and areturn
abbrev pub return : Option Kind → ℕ
return None = 177
return (Some kinds.Int) = 172
return (Some kinds.Long) = 173
return (Some kinds.Ref) = 176

-- invokevirtual, invokespecial, invokestatic and invokeinterface
abbrev pub invoke : InvokeKind → ℕ
invoke calls.Virtual = 182
invoke calls.Special = 183
invoke calls.Static = 184
invoke calls.Interface = 185
