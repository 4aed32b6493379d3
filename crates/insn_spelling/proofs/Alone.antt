-- Instructions that are their opcode alone.
use Rattle.std.proofs.Common.{◌≡◌, ℕ, zero, suc, ◌<◌, ◌+◌, true, Some, None, refl, arith, lit<, tests, rules}
use Rattle.std.specs.Prelude.{Option, ℤ, pos, negsuc, ◌+ℤ◌, unsigned_abs}
use Rattle.class_model.specs.declared.insn.Insn.{Insn}
use Rattle.class_model.specs.declared.insn.Insn.TheVariants.{Nop, PushNull, PushInt, PushLong, Load, Store, ArrayLoad, ArrayStore, Stack, Bin, Shift, Neg, Convert, Lcmp, Return, ArrayLength, Athrow}
use Rattle.class_model.specs.declared.insn.Kind.{Kind}
use Rattle.class_model.specs.declared.insn.Kind.TheVariants as kinds
use Rattle.class_model.specs.declared.insn.Elem.{Elem}
use Rattle.class_model.specs.declared.insn.Elem.TheVariants as elems
use Rattle.class_model.specs.declared.insn.Width.{Width}
use Rattle.class_model.specs.declared.insn.Width.TheVariants as widths
use Rattle.class_model.specs.declared.insn.BinOp.{BinOp}
use Rattle.class_model.specs.declared.insn.BinOp.TheVariants as bins
use Rattle.class_model.specs.declared.insn.ShiftOp.{ShiftOp}
use Rattle.class_model.specs.declared.insn.ShiftOp.TheVariants as shifts
use Rattle.class_model.specs.declared.insn.Conv.{Conv}
use Rattle.class_model.specs.declared.insn.Conv.TheVariants as convs
use Rattle.class_model.specs.declared.insn.StackOp.{StackOp}
use Rattle.class_model.specs.declared.insn.StackOp.TheVariants as stack
use Rattle.const_pool.specs.Pool.{Pool}
use Rattle.opcode_table.specs.declared.opcodes.OperandForm.TheVariants as form
use Rattle.opcode_table.specs.declared.raw_insn.RawInsn.TheVariants as raw
use Rattle.opcode_table.specs.Opcodes.{opcodes, form_of}
use Rattle.insn_code.specs.declared.unlinked.Unlinked.TheVariants.{Whole}
use Rattle.insn_code.specs.Shapes.{plain, constant_or_load, store_or_stack, binary, unary_or_shift, control}
use Rattle.class_limits.specs.Sizes.{is_small_int, is_small_long}
use Rattle.insn_spelling.specs.OpcodeOf as opcode
use Rattle.insn_spelling.proofs.Forms.{Stands, alone}

-- an opcode that is the instruction, with nothing behind it
pub record Is (op : ℕ) (insn : Insn) : Type 0 where
  pub byte : op < 256
  pub formed : form_of op ≡ form.Empty
  pub gives : plain op ≡ Some insn

pub is_stands : (r : Pool) (pc op : ℕ) (insn : Insn) → Is op insn → Stands r pc (raw.Plain op) (Whole insn)
is_stands r pc op insn is = alone r pc op insn is.byte is.formed is.gives

pub nop_is : Is 0 Nop
unfolding form_of opcodes plain constant_or_load
nop_is = record { byte = lit< tt; formed = refl; gives = refl }

pub null_is : Is 1 PushNull
unfolding form_of opcodes plain constant_or_load
null_is = record { byte = lit< tt; formed = refl; gives = refl }

pub array_load_is : (elem : Elem) → Is (opcode.array_load elem) (ArrayLoad elem)
unfolding form_of opcodes plain constant_or_load
array_load_is elems.Int = record { byte = lit< tt; formed = refl; gives = refl }
array_load_is elems.Long = record { byte = lit< tt; formed = refl; gives = refl }
array_load_is elems.Ref = record { byte = lit< tt; formed = refl; gives = refl }
array_load_is elems.Byte = record { byte = lit< tt; formed = refl; gives = refl }
array_load_is elems.Char = record { byte = lit< tt; formed = refl; gives = refl }
array_load_is elems.Short = record { byte = lit< tt; formed = refl; gives = refl }

pub array_store_is : (elem : Elem) → Is (opcode.array_store elem) (ArrayStore elem)
unfolding form_of opcodes plain store_or_stack
array_store_is elems.Int = record { byte = lit< tt; formed = refl; gives = refl }
array_store_is elems.Long = record { byte = lit< tt; formed = refl; gives = refl }
array_store_is elems.Ref = record { byte = lit< tt; formed = refl; gives = refl }
array_store_is elems.Byte = record { byte = lit< tt; formed = refl; gives = refl }
array_store_is elems.Char = record { byte = lit< tt; formed = refl; gives = refl }
array_store_is elems.Short = record { byte = lit< tt; formed = refl; gives = refl }

pub stack_is : (op : StackOp) → Is (opcode.stack_op op) (Stack op)
unfolding form_of opcodes plain store_or_stack
stack_is stack.Pop = record { byte = lit< tt; formed = refl; gives = refl }
stack_is stack.Pop2 = record { byte = lit< tt; formed = refl; gives = refl }
stack_is stack.Dup = record { byte = lit< tt; formed = refl; gives = refl }
stack_is stack.DupX1 = record { byte = lit< tt; formed = refl; gives = refl }
stack_is stack.DupX2 = record { byte = lit< tt; formed = refl; gives = refl }
stack_is stack.Dup2 = record { byte = lit< tt; formed = refl; gives = refl }
stack_is stack.Dup2X1 = record { byte = lit< tt; formed = refl; gives = refl }
stack_is stack.Dup2X2 = record { byte = lit< tt; formed = refl; gives = refl }
stack_is stack.Swap = record { byte = lit< tt; formed = refl; gives = refl }

pub bin_is : (width : Width) (op : BinOp) → Is (opcode.bin width op) (Bin width op)
unfolding form_of opcodes plain binary
bin_is widths.Int bins.Add = record { byte = lit< tt; formed = refl; gives = refl }
bin_is widths.Int bins.Sub = record { byte = lit< tt; formed = refl; gives = refl }
bin_is widths.Int bins.Mul = record { byte = lit< tt; formed = refl; gives = refl }
bin_is widths.Int bins.Div = record { byte = lit< tt; formed = refl; gives = refl }
bin_is widths.Int bins.Rem = record { byte = lit< tt; formed = refl; gives = refl }
bin_is widths.Int bins.And = record { byte = lit< tt; formed = refl; gives = refl }
bin_is widths.Int bins.Or = record { byte = lit< tt; formed = refl; gives = refl }
bin_is widths.Int bins.Xor = record { byte = lit< tt; formed = refl; gives = refl }
bin_is widths.Long bins.Add = record { byte = lit< tt; formed = refl; gives = refl }
bin_is widths.Long bins.Sub = record { byte = lit< tt; formed = refl; gives = refl }
bin_is widths.Long bins.Mul = record { byte = lit< tt; formed = refl; gives = refl }
bin_is widths.Long bins.Div = record { byte = lit< tt; formed = refl; gives = refl }
bin_is widths.Long bins.Rem = record { byte = lit< tt; formed = refl; gives = refl }
bin_is widths.Long bins.And = record { byte = lit< tt; formed = refl; gives = refl }
bin_is widths.Long bins.Or = record { byte = lit< tt; formed = refl; gives = refl }
bin_is widths.Long bins.Xor = record { byte = lit< tt; formed = refl; gives = refl }

pub shift_is : (width : Width) (op : ShiftOp) → Is (opcode.shift width op) (Shift width op)
unfolding form_of opcodes plain unary_or_shift
shift_is widths.Int shifts.Left = record { byte = lit< tt; formed = refl; gives = refl }
shift_is widths.Int shifts.Right = record { byte = lit< tt; formed = refl; gives = refl }
shift_is widths.Int shifts.Unsigned = record { byte = lit< tt; formed = refl; gives = refl }
shift_is widths.Long shifts.Left = record { byte = lit< tt; formed = refl; gives = refl }
shift_is widths.Long shifts.Right = record { byte = lit< tt; formed = refl; gives = refl }
shift_is widths.Long shifts.Unsigned = record { byte = lit< tt; formed = refl; gives = refl }

pub neg_is : (width : Width) → Is (opcode.neg width) (Neg width)
unfolding form_of opcodes plain unary_or_shift
neg_is widths.Int = record { byte = lit< tt; formed = refl; gives = refl }
neg_is widths.Long = record { byte = lit< tt; formed = refl; gives = refl }

pub convert_is : (conv : Conv) → Is (opcode.convert conv) (Convert conv)
unfolding form_of opcodes plain unary_or_shift
convert_is convs.IntLong = record { byte = lit< tt; formed = refl; gives = refl }
convert_is convs.LongInt = record { byte = lit< tt; formed = refl; gives = refl }
convert_is convs.IntByte = record { byte = lit< tt; formed = refl; gives = refl }
convert_is convs.IntChar = record { byte = lit< tt; formed = refl; gives = refl }
convert_is convs.IntShort = record { byte = lit< tt; formed = refl; gives = refl }

pub lcmp_is : Is 148 Lcmp
unfolding form_of opcodes plain unary_or_shift
lcmp_is = record { byte = lit< tt; formed = refl; gives = refl }

pub return_is : (kind : Option Kind) → Is (opcode.return kind) (Return kind)
unfolding form_of opcodes plain control
return_is None = record { byte = lit< tt; formed = refl; gives = refl }
return_is (Some kinds.Int) = record { byte = lit< tt; formed = refl; gives = refl }
return_is (Some kinds.Long) = record { byte = lit< tt; formed = refl; gives = refl }
return_is (Some kinds.Ref) = record { byte = lit< tt; formed = refl; gives = refl }

pub array_length_is : Is 190 ArrayLength
unfolding form_of opcodes plain control
array_length_is = record { byte = lit< tt; formed = refl; gives = refl }

pub athrow_is : Is 191 Athrow
unfolding form_of opcodes plain control
athrow_is = record { byte = lit< tt; formed = refl; gives = refl }

-- ---- small numbers and locals

pub int_is : (n : ℤ) → is_small_int n ≡ true → Is (unsigned_abs (n +ℤ pos 3)) (PushInt n)
unfolding form_of opcodes plain constant_or_load
int_is (pos zero) small = record { byte = lit< tt; formed = refl; gives = refl }
int_is (pos (suc zero)) small = record { byte = lit< tt; formed = refl; gives = refl }
int_is (pos (suc (suc zero))) small = record { byte = lit< tt; formed = refl; gives = refl }
int_is (pos (suc (suc (suc zero)))) small = record { byte = lit< tt; formed = refl; gives = refl }
int_is (pos (suc (suc (suc (suc zero))))) small = record { byte = lit< tt; formed = refl; gives = refl }
int_is (pos (suc (suc (suc (suc (suc zero)))))) small = record { byte = lit< tt; formed = refl; gives = refl }
int_is (pos (suc (suc (suc (suc (suc (suc n))))))) small = absurd (search (tests, rules, arith))
int_is (negsuc zero) small = record { byte = lit< tt; formed = refl; gives = refl }
int_is (negsuc (suc n)) small = absurd (search (tests, rules, arith))

pub long_is : (n : ℤ) → is_small_long n ≡ true → Is (9 + unsigned_abs n) (PushLong n)
unfolding form_of opcodes plain constant_or_load
long_is (pos zero) small = record { byte = lit< tt; formed = refl; gives = refl }
long_is (pos (suc zero)) small = record { byte = lit< tt; formed = refl; gives = refl }
long_is (pos (suc (suc n))) small = absurd (search (tests, rules, arith))
long_is (negsuc n) small = absurd cc

pub load_is : (kind : Kind) (slot : ℕ) → slot < 4 → Is (opcode.load_0 kind + slot) (Load kind slot)
unfolding form_of opcodes plain constant_or_load
load_is kinds.Int zero lt = record { byte = lit< tt; formed = refl; gives = refl }
load_is kinds.Int (suc zero) lt = record { byte = lit< tt; formed = refl; gives = refl }
load_is kinds.Int (suc (suc zero)) lt = record { byte = lit< tt; formed = refl; gives = refl }
load_is kinds.Int (suc (suc (suc zero))) lt = record { byte = lit< tt; formed = refl; gives = refl }
load_is kinds.Long zero lt = record { byte = lit< tt; formed = refl; gives = refl }
load_is kinds.Long (suc zero) lt = record { byte = lit< tt; formed = refl; gives = refl }
load_is kinds.Long (suc (suc zero)) lt = record { byte = lit< tt; formed = refl; gives = refl }
load_is kinds.Long (suc (suc (suc zero))) lt = record { byte = lit< tt; formed = refl; gives = refl }
load_is kinds.Ref zero lt = record { byte = lit< tt; formed = refl; gives = refl }
load_is kinds.Ref (suc zero) lt = record { byte = lit< tt; formed = refl; gives = refl }
load_is kinds.Ref (suc (suc zero)) lt = record { byte = lit< tt; formed = refl; gives = refl }
load_is kinds.Ref (suc (suc (suc zero))) lt = record { byte = lit< tt; formed = refl; gives = refl }
load_is kind (suc (suc (suc (suc slot)))) lt = absurd (omega arith)

pub store_is : (kind : Kind) (slot : ℕ) → slot < 4 → Is (opcode.store_0 kind + slot) (Store kind slot)
unfolding form_of opcodes plain store_or_stack
store_is kinds.Int zero lt = record { byte = lit< tt; formed = refl; gives = refl }
store_is kinds.Int (suc zero) lt = record { byte = lit< tt; formed = refl; gives = refl }
store_is kinds.Int (suc (suc zero)) lt = record { byte = lit< tt; formed = refl; gives = refl }
store_is kinds.Int (suc (suc (suc zero))) lt = record { byte = lit< tt; formed = refl; gives = refl }
store_is kinds.Long zero lt = record { byte = lit< tt; formed = refl; gives = refl }
store_is kinds.Long (suc zero) lt = record { byte = lit< tt; formed = refl; gives = refl }
store_is kinds.Long (suc (suc zero)) lt = record { byte = lit< tt; formed = refl; gives = refl }
store_is kinds.Long (suc (suc (suc zero))) lt = record { byte = lit< tt; formed = refl; gives = refl }
store_is kinds.Ref zero lt = record { byte = lit< tt; formed = refl; gives = refl }
store_is kinds.Ref (suc zero) lt = record { byte = lit< tt; formed = refl; gives = refl }
store_is kinds.Ref (suc (suc zero)) lt = record { byte = lit< tt; formed = refl; gives = refl }
store_is kinds.Ref (suc (suc (suc zero))) lt = record { byte = lit< tt; formed = refl; gives = refl }
store_is kind (suc (suc (suc (suc slot)))) lt = absurd (omega arith)
