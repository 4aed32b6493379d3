-- The form in which each instruction is written, where several spell it: the shortest, but always two bytes for an index of
-- the constant pool, and one choice of goto or goto_w for a whole method. This project's own rule.
use Rattle.std.specs.Prelude.{ℕ, ◌+◌, Bool, true, nat_lt, map, ℤ, pos, negsuc, ◌+ℤ◌, ◌-ℤ◌, unsigned_abs, if◌then◌else◌}
use Rattle.class_model.specs.Descriptor.{words_of}
use Rattle.class_model.specs.declared.insn.Insn.{Insn}
use Rattle.class_model.specs.declared.insn.Insn.TheVariants.{Nop, PushNull, PushInt, PushLong, PushString, Load, Store, ArrayLoad, ArrayStore, Stack, Bin, Shift, Neg, Iinc, Convert, Lcmp, If, IfInt, IfRef, IfNull, Goto, TableSwitch, LookupSwitch, Return, GetStatic, PutStatic, GetField, PutField, Invoke, New, NewArray, ANewArray, ArrayLength, Athrow, CheckCast, InstanceOf, MultiNewArray}
use Rattle.class_model.specs.declared.insn.InvokeKind.{InvokeKind}
use Rattle.class_model.specs.declared.insn.InvokeKind.TheVariants as calls
use Rattle.class_model.specs.declared.types.MethodRef.{MethodRef}
use Rattle.opcode_table.specs.declared.raw_insn.RawInsn.{RawInsn}
use Rattle.opcode_table.specs.declared.raw_insn.RawInsn.TheVariants as raw
use Rattle.opcode_table.specs.Writing.{fits_i8}
use Rattle.class_limits.specs.Sizes.{CodeLayout, offset_at, is_small_int, is_small_long}
use Rattle.insn_spelling.specs.OpcodeOf as opcode

-- ---- numbers

-- from -32,768 to 32,767
abbrev pub fits_i16 : ℤ → Bool
fits_i16 (pos n) = nat_lt n 32768
fits_i16 (negsuc n) = nat_lt n 32768

-- iconst, bipush, sipush, or ldc_w with the index of the number
abbrev pub raw_int : ℕ → ℤ → RawInsn
raw_int index n =
    if is_small_int n then raw.Plain (unsigned_abs (n +ℤ pos 3))
    else if fits_i8 n then raw.Byte 16 n
    else if fits_i16 n then raw.Short 17 n
    else raw.Pool 19 index

-- lconst for 0 and 1, else ldc2_w with the index of the number
abbrev pub raw_long : ℕ → ℤ → RawInsn
raw_long index n = if is_small_long n then raw.Plain (9 + unsigned_abs n) else raw.Pool 20 index

-- ---- locals: by their opcode to 3, then named

abbrev pub raw_local : ℕ → ℕ → ℕ → RawInsn
raw_local opcode opcode_0 slot = if nat_lt slot 4 then raw.Plain (opcode_0 + slot) else raw.Local opcode slot

-- ---- branches: from the opcode at pc, in bytes, to the opcode of an instruction by its number

abbrev pub distance : CodeLayout → ℕ → ℕ → ℤ
distance layout pc target = pos (offset_at layout target) -ℤ pos pc

abbrev pub row_distance : CodeLayout → ℕ → ℤ × ℕ → ℤ × ℤ
row_distance layout pc row = (row.0, distance layout pc row.1)

-- ---- calls: invokeinterface also holds the words of its arguments, the receiver counted

abbrev pub raw_call : ℕ → InvokeKind → MethodRef → RawInsn
raw_call index calls.Interface method = raw.Interface index (words_of method.desc true)
raw_call index kind method = raw.Pool (opcode.invoke kind) index

-- ---- an instruction at pc of code; `index` is that of what it names in the constant pool
unfoldable pub raw_of : CodeLayout → ℕ → ℕ → Insn → RawInsn
raw_of layout pc index Nop = raw.Plain 0
raw_of layout pc index PushNull = raw.Plain 1
raw_of layout pc index (PushInt n) = raw_int index n
raw_of layout pc index (PushLong n) = raw_long index n
raw_of layout pc index (PushString units) = raw.Pool 19 index
raw_of layout pc index (Load kind slot) = raw_local (opcode.load kind) (opcode.load_0 kind) slot
raw_of layout pc index (Store kind slot) = raw_local (opcode.store kind) (opcode.store_0 kind) slot
raw_of layout pc index (ArrayLoad elem) = raw.Plain (opcode.array_load elem)
raw_of layout pc index (ArrayStore elem) = raw.Plain (opcode.array_store elem)
raw_of layout pc index (Stack op) = raw.Plain (opcode.stack_op op)
raw_of layout pc index (Bin width op) = raw.Plain (opcode.bin width op)
raw_of layout pc index (Shift width op) = raw.Plain (opcode.shift width op)
raw_of layout pc index (Neg width) = raw.Plain (opcode.neg width)
raw_of layout pc index (Iinc slot step) = raw.Inc slot step
raw_of layout pc index (Convert conv) = raw.Plain (opcode.convert conv)
raw_of layout pc index Lcmp = raw.Plain 148
raw_of layout pc index (If cond target) = raw.Jump (opcode.if_zero cond) (distance layout pc target)
raw_of layout pc index (IfInt cond target) = raw.Jump (opcode.if_int cond) (distance layout pc target)
raw_of layout pc index (IfRef same target) = raw.Jump (opcode.if_ref same) (distance layout pc target)
raw_of layout pc index (IfNull null target) = raw.Jump (opcode.if_null null) (distance layout pc target)
raw_of layout pc index (Goto target) = raw.Jump (opcode.goto layout.wide_goto) (distance layout pc target)
raw_of layout pc index (TableSwitch low default targets) = raw.Table low (distance layout pc default) (map (distance layout pc) targets)
raw_of layout pc index (LookupSwitch default rows) = raw.Lookup (distance layout pc default) (map (row_distance layout pc) rows)
raw_of layout pc index (Return kind) = raw.Plain (opcode.return kind)
raw_of layout pc index (GetStatic field) = raw.Pool 178 index
raw_of layout pc index (PutStatic field) = raw.Pool 179 index
raw_of layout pc index (GetField field) = raw.Pool 180 index
raw_of layout pc index (PutField field) = raw.Pool 181 index
raw_of layout pc index (Invoke kind method) = raw_call index kind method
raw_of layout pc index (New class) = raw.Pool 187 index
raw_of layout pc index (NewArray primitive) = raw.NewArray (opcode.element_code primitive)
raw_of layout pc index (ANewArray ty) = raw.Pool 189 index
raw_of layout pc index ArrayLength = raw.Plain 190
raw_of layout pc index Athrow = raw.Plain 191
raw_of layout pc index (CheckCast ty) = raw.Pool 192 index
raw_of layout pc index (InstanceOf ty) = raw.Pool 193 index
raw_of layout pc index (MultiNewArray ty dimensions) = raw.Multi index dimensions
