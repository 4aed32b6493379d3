-- How many bytes each instruction of code takes, and where it begins, in the spelling that is written (JVMS 6.5; which of several
-- spellings is written is this project's own): the shortest, but `ldc_w` for each entry of the pool.
use Rattle.std.specs.Prelude.{ℕ, ◌+◌, ◌*◌, ◌==◌, ◌||◌, ◌&&◌, nat_lt, Bool, true, false, ℤ, pos, negsuc, List, [], ◌∷◌, length, slice_get, Option, Some, None, if◌then◌else◌}
use Rattle.class_model.specs.declared.insn.Insn.{Insn}
use Rattle.class_model.specs.declared.insn.Insn.TheVariants.{Nop, PushNull, PushInt, PushLong, PushString, Load, Store, ArrayLoad, ArrayStore, Stack, Bin, Shift, Neg, Iinc, Convert, Lcmp, If, IfInt, IfRef, IfNull, Goto, TableSwitch, LookupSwitch, Return, GetStatic, PutStatic, GetField, PutField, Invoke, New, NewArray, ANewArray, ArrayLength, Athrow, CheckCast, InstanceOf, MultiNewArray}
use Rattle.class_model.specs.declared.insn.InvokeKind.{InvokeKind}
use Rattle.class_model.specs.declared.insn.InvokeKind.TheVariants.{Virtual, Special, Static, Interface}
use Rattle.class_model.specs.declared.class.CodeDef.{CodeDef}
use Rattle.opcode_table.specs.Fields.{padding}
use Rattle.opcode_table.specs.Writing.{fits_i8}

-- -1 to 5
abbrev pub is_small_int : ℤ → Bool
is_small_int (pos n) = nat_lt n 6
is_small_int (negsuc n) = n == 0

-- iconst_m1 to iconst_5, bipush, and else sipush or ldc_w
abbrev pub int_size : ℤ → ℕ
int_size n = if is_small_int n then 1 else if fits_i8 n then 2 else 3

abbrev pub is_small_long : ℤ → Bool
is_small_long (pos n) = nat_lt n 2
is_small_long (negsuc n) = false

-- lconst_0 and lconst_1, else ldc2_w
abbrev pub long_size : ℤ → ℕ
long_size n = if is_small_long n then 1 else 3

-- a load or a store: the forms for locals 0 to 3, then a local of one byte, then `wide`
abbrev pub local_size : ℕ → ℕ
local_size slot = if nat_lt slot 4 then 1 else if nat_lt slot 256 then 2 else 4

-- iinc, and `wide iinc` for a local or a step that passes a byte
abbrev pub iinc_size : ℕ → ℤ → ℕ
iinc_size slot step = if nat_lt slot 256 && fits_i8 step then 3 else 6

-- goto_w or goto
abbrev pub goto_size : Bool → ℕ
goto_size wide = if wide then 5 else 3

abbrev pub invoke_size : InvokeKind → ℕ
invoke_size Interface = 5
invoke_size _ = 3

-- the bytes of an instruction whose opcode stands at pc; `wide` says whether each Goto is `goto_w`
unfoldable pub size_at : Bool → ℕ → Insn → ℕ
size_at wide pc Nop = 1
size_at wide pc PushNull = 1
size_at wide pc (PushInt n) = int_size n
size_at wide pc (PushLong n) = long_size n
size_at wide pc (PushString text) = 3
size_at wide pc (Load kind slot) = local_size slot
size_at wide pc (Store kind slot) = local_size slot
size_at wide pc (ArrayLoad elem) = 1
size_at wide pc (ArrayStore elem) = 1
size_at wide pc (Stack op) = 1
size_at wide pc (Bin width op) = 1
size_at wide pc (Shift width op) = 1
size_at wide pc (Neg width) = 1
size_at wide pc (Iinc slot step) = iinc_size slot step
size_at wide pc (Convert conv) = 1
size_at wide pc Lcmp = 1
size_at wide pc (If cond target) = 3
size_at wide pc (IfInt cond target) = 3
size_at wide pc (IfRef same target) = 3
size_at wide pc (IfNull null target) = 3
size_at wide pc (Goto target) = goto_size wide
size_at wide pc (TableSwitch low default targets) = 13 + padding pc + 4 * length targets
size_at wide pc (LookupSwitch default rows) = 9 + padding pc + 8 * length rows
size_at wide pc (Return kind) = 1
size_at wide pc (GetStatic field) = 3
size_at wide pc (PutStatic field) = 3
size_at wide pc (GetField field) = 3
size_at wide pc (PutField field) = 3
size_at wide pc (Invoke kind method) = invoke_size kind
size_at wide pc (New class) = 3
size_at wide pc (NewArray primitive) = 2
size_at wide pc (ANewArray ty) = 3
size_at wide pc ArrayLength = 1
size_at wide pc Athrow = 1
size_at wide pc (CheckCast ty) = 3
size_at wide pc (InstanceOf ty) = 3
size_at wide pc (MultiNewArray ty dimensions) = 4

-- the offset behind instructions that stand from pc on
unfoldable pub end_from : Bool → ℕ → List Insn → ℕ
end_from wide pc [] = pc
end_from wide pc (insn ∷ insns) = end_from wide (pc + size_at wide pc insn) insns

-- the offsets at which they begin
unfoldable pub offsets_from : Bool → ℕ → List Insn → List ℕ
offsets_from wide pc [] = []
offsets_from wide pc (insn ∷ insns) = pc ∷ offsets_from wide (pc + size_at wide pc insn) insns

-- whether each Goto of code is `goto_w`: the code with `goto` would be over 32,767 bytes
unfoldable pub uses_wide_goto : CodeDef → Bool
uses_wide_goto code = nat_lt 32767 (end_from false 0 code.insns)

-- how many bytes the instructions of code take
unfoldable pub code_size : CodeDef → ℕ
code_size code = end_from (uses_wide_goto code) 0 code.insns

-- the offsets at which the instructions of code begin
unfoldable pub offsets_of : CodeDef → List ℕ
offsets_of code = offsets_from (uses_wide_goto code) 0 code.insns

-- where the instructions of code stand
pub record CodeLayout : Type 0 where
  pub wide_goto : Bool
  pub starts : List ℕ
  pub size : ℕ

unfoldable pub layout_of : CodeDef → CodeLayout
layout_of code = record { wide_goto = uses_wide_goto code; starts = offsets_of code; size = code_size code }

abbrev pub or_end : ℕ → Option ℕ → ℕ
or_end size None = size
or_end size (Some offset) = offset

-- the offset of an instruction by its number; behind the last instruction stands the code's end
abbrev pub offset_at : CodeLayout → ℕ → ℕ
offset_at layout number = or_end layout.size (slice_get layout.starts number)
