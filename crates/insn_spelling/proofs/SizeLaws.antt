-- Each instruction takes as many bytes as its size says.
use Rattle.std.proofs.Common.{◌≡◌, ◌∙◌, ℕ, ◌+◌, ◌*◌, Bool, true, false, List, [], ◌∷◌, length, map, refl, ap, arith, length-append}
use Rattle.std.specs.Prelude.{ℤ, nat_lt, ◌&&◌, if◌then◌else◌}
use Rattle.std.specs.List.{flat_map}
use Rattle.std.proofs.lemmas.List.{length-map}
use Rattle.class_model.specs.declared.insn.Insn.{Insn}
use Rattle.class_model.specs.declared.insn.Insn.TheVariants.{Nop, PushNull, PushInt, PushLong, PushString, Load, Store, ArrayLoad, ArrayStore, Stack, Bin, Shift, Neg, Iinc, Convert, Lcmp, If, IfInt, IfRef, IfNull, Goto, TableSwitch, LookupSwitch, Return, GetStatic, PutStatic, GetField, PutField, Invoke, New, NewArray, ANewArray, ArrayLength, Athrow, CheckCast, InstanceOf, MultiNewArray}
use Rattle.class_model.specs.declared.insn.InvokeKind.{InvokeKind}
use Rattle.class_model.specs.declared.insn.InvokeKind.TheVariants as calls
use Rattle.class_model.specs.declared.types.MethodRef.{MethodRef}
use Rattle.class_limits.specs.Sizes.{CodeLayout, is_small_int, is_small_long, int_size, long_size, local_size, iinc_size, goto_size, invoke_size, size_at}
use Rattle.opcode_table.specs.declared.opcodes.OperandForm.{OperandForm}
use Rattle.opcode_table.specs.declared.opcodes.OperandForm.TheVariants as form
use Rattle.opcode_table.specs.declared.raw_insn.RawInsn.{RawInsn}
use Rattle.opcode_table.specs.declared.raw_insn.RawInsn.TheVariants as raw
use Rattle.opcode_table.specs.Opcodes.{opcodes, form_of}
use Rattle.opcode_table.specs.Fields.{padding}
use Rattle.opcode_table.specs.Writing.{spelling, index_bytes, offset_bytes, fits_i8, u16_bytes, i8_bytes, i16_bytes, i32_bytes, row_bytes}
use Rattle.insn_spelling.specs.OpcodeOf as opcode
use Rattle.insn_spelling.specs.Raw.{fits_i16, distance, row_distance, raw_int, raw_long, raw_local, raw_call, raw_of}
use Rattle.insn_spelling.proofs.Numbers.{padding_is}
use Rattle.insn_spelling.proofs.Jumps.{IsJumpOf, if_is, if_int_is, if_ref_is, if_null_is}

-- the bytes of a raw form
abbrev pub size_of : ℕ → RawInsn → ℕ
size_of pc x = length (spelling pc x)

if_size : (pc : ℕ) (b : Bool) (x y : RawInsn) (m n : ℕ) → size_of pc x ≡ m → size_of pc y ≡ n → size_of pc (if b then x else y) ≡ (if b then m else n)
if_size pc true x y m n e f = e
if_size pc false x y m n e f = f

index_size : (pc op k : ℕ) → form_of op ≡ form.Pool → size_of pc (raw.Pool op k) ≡ 3
unfolding spelling u16_bytes
index_size pc op k is = ap (λ (f : OperandForm). length (op ∷ index_bytes f k)) is

near_size : (pc op target : ℕ) (d : ℤ) (insn : Insn) → IsJumpOf op target insn → size_of pc (raw.Jump op d) ≡ 3
unfolding spelling i16_bytes
near_size pc op target d insn is = ap (λ (f : OperandForm). length (op ∷ offset_bytes f d)) is.formed

same_either : (b : Bool) (n : ℕ) → (if b then n else n) ≡ n
same_either true n = refl
same_either false n = refl

int_sized : (pc k : ℕ) (n : ℤ) → size_of pc (raw_int k n) ≡ int_size n
unfolding spelling i8_bytes i16_bytes form_of opcodes
int_sized pc k n =
    if_size pc (is_small_int n) _ _ 1 _ refl
    (if_size pc (fits_i8 n) _ _ 2 3 refl (if_size pc (fits_i16 n) _ _ 3 3 refl (index_size pc 19 k refl) ∙ same_either (fits_i16 n) 3))

long_sized : (pc k : ℕ) (n : ℤ) → size_of pc (raw_long k n) ≡ long_size n
unfolding spelling form_of opcodes
long_sized pc k n = if_size pc (is_small_long n) _ _ 1 3 refl (index_size pc 20 k refl)

either : (b : Bool) (x y : List ℕ) (m n : ℕ) → length x ≡ m → length y ≡ n → length (if b then x else y) ≡ (if b then m else n)
either true x y m n e f = e
either false x y m n e f = f

named_sized : (pc op slot : ℕ) → size_of pc (raw.Local op slot) ≡ (if nat_lt slot 256 then 2 else 4)
unfolding spelling u16_bytes
named_sized pc op slot = either (nat_lt slot 256) _ _ 2 4 refl refl

local_sized : (pc op op_0 slot : ℕ) → size_of pc (raw_local op op_0 slot) ≡ local_size slot
unfolding spelling
local_sized pc op op_0 slot = if_size pc (nat_lt slot 4) _ _ 1 _ refl (named_sized pc op slot)

increment_sized : (pc slot : ℕ) (step : ℤ) → size_of pc (raw.Inc slot step) ≡ iinc_size slot step
unfolding spelling u16_bytes i8_bytes i16_bytes
increment_sized pc slot step = either (nat_lt slot 256 && fits_i8 step) _ _ 3 6 refl refl

goto_sized : (wide : Bool) (pc : ℕ) (d : ℤ) → size_of pc (raw.Jump (opcode.goto wide) d) ≡ goto_size wide
unfolding spelling form_of opcodes i16_bytes i32_bytes
goto_sized true pc d = refl
goto_sized false pc d = refl

call_sized : (pc k : ℕ) (kind : InvokeKind) (method : MethodRef) → size_of pc (raw_call k kind method) ≡ invoke_size kind
unfolding spelling form_of opcodes u16_bytes
call_sized pc k calls.Virtual method = refl
call_sized pc k calls.Special method = refl
call_sized pc k calls.Static method = refl
call_sized pc k calls.Interface method = refl

numbers_sized : (xs : List ℤ) → length (flat_map i32_bytes xs) ≡ 4 * length xs
unfolding i32_bytes
numbers_sized [] = refl
numbers_sized (x ∷ xs) = omega (arith, numbers_sized xs)

rows_sized : (rows : List (ℤ × ℤ)) → length (flat_map row_bytes rows) ≡ 8 * length rows
unfolding i32_bytes
rows_sized [] = refl
rows_sized (row ∷ rows) = omega (arith, rows_sized rows)

table_sized : (pc : ℕ) (low default : ℤ) (offsets : List ℤ) → size_of pc (raw.Table low default offsets) ≡ 13 + padding pc + 4 * length offsets
unfolding spelling i32_bytes
table_sized pc low default offsets = simp length-append (omega (arith, (padding_is pc).0, numbers_sized offsets))

lookup_sized : (pc : ℕ) (default : ℤ) (rows : List (ℤ × ℤ)) → size_of pc (raw.Lookup default rows) ≡ 9 + padding pc + 8 * length rows
unfolding spelling i32_bytes
lookup_sized pc default rows = simp length-append (omega (arith, (padding_is pc).0, rows_sized rows))

-- ---- every shape

pub sized : (layout : CodeLayout) (pc k : ℕ) (insn : Insn) → size_of pc (raw_of layout pc k insn) ≡ size_at layout.wide_goto pc insn
unfolding raw_of size_at spelling form_of opcodes u16_bytes
sized layout pc k Nop = refl
sized layout pc k PushNull = refl
sized layout pc k (PushInt n) = int_sized pc k n
sized layout pc k (PushLong n) = long_sized pc k n
sized layout pc k (PushString units) = refl
sized layout pc k (Load kind slot) = local_sized pc (opcode.load kind) (opcode.load_0 kind) slot
sized layout pc k (Store kind slot) = local_sized pc (opcode.store kind) (opcode.store_0 kind) slot
sized layout pc k (ArrayLoad elem) = refl
sized layout pc k (ArrayStore elem) = refl
sized layout pc k (Stack op) = refl
sized layout pc k (Bin width op) = refl
sized layout pc k (Shift width op) = refl
sized layout pc k (Neg width) = refl
sized layout pc k (Iinc slot step) = increment_sized pc slot step
sized layout pc k (Convert conv) = refl
sized layout pc k Lcmp = refl
sized layout pc k (If cond target) = near_size pc (opcode.if_zero cond) target (distance layout pc target) _ (if_is cond target)
sized layout pc k (IfInt cond target) = near_size pc (opcode.if_int cond) target (distance layout pc target) _ (if_int_is cond target)
sized layout pc k (IfRef same target) = near_size pc (opcode.if_ref same) target (distance layout pc target) _ (if_ref_is same target)
sized layout pc k (IfNull null target) = near_size pc (opcode.if_null null) target (distance layout pc target) _ (if_null_is null target)
sized layout pc k (Goto target) = goto_sized layout.wide_goto pc (distance layout pc target)
sized layout pc k (TableSwitch low default targets) = table_sized pc low (distance layout pc default) (map (distance layout pc) targets) ∙ ap (λ (n : ℕ). 13 + padding pc + 4 * n) (length-map targets (distance layout pc))
sized layout pc k (LookupSwitch default rows) = lookup_sized pc (distance layout pc default) (map (row_distance layout pc) rows) ∙ ap (λ (n : ℕ). 9 + padding pc + 8 * n) (length-map rows (row_distance layout pc))
sized layout pc k (Return kind) = refl
sized layout pc k (GetStatic field) = refl
sized layout pc k (PutStatic field) = refl
sized layout pc k (GetField field) = refl
sized layout pc k (PutField field) = refl
sized layout pc k (Invoke kind method) = call_sized pc k kind method
sized layout pc k (New class) = refl
sized layout pc k (NewArray primitive) = refl
sized layout pc k (ANewArray ty) = refl
sized layout pc k ArrayLength = refl
sized layout pc k Athrow = refl
sized layout pc k (CheckCast ty) = refl
sized layout pc k (InstanceOf ty) = refl
sized layout pc k (MultiNewArray ty count) = refl
