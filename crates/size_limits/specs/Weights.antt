-- What each instruction weighs: no fewer than the bytes of what is written for it. The weights are this project's own.
use Rattle.std.specs.Prelude.{ℕ, ◌+◌, ◌*◌, length, sum_by, Option, Some, None}
use Rattle.class_model.specs.declared.insn.Kind.{Kind}
use Rattle.class_model.specs.declared.insn.Kind.TheVariants as kinds
use Rattle.class_model.specs.declared.insn.Elem.{Elem}
use Rattle.class_model.specs.declared.insn.Elem.TheVariants as elems
use Rattle.class_model.specs.declared.insn.StackOp.{StackOp}
use Rattle.class_model.specs.declared.insn.StackOp.TheVariants.{Pop, Pop2, Dup, DupX1, DupX2, Dup2, Dup2X1, Dup2X2, Swap}
use Rattle.class_model.specs.declared.insn.Insn.{Insn}
use Rattle.class_model.specs.declared.insn.Insn.TheVariants.{Nop, PushNull, PushInt, PushLong, PushString, Load, Store, ArrayLoad, ArrayStore, Stack, Bin, Shift, Neg, Iinc, Convert, Lcmp, If, IfInt, IfRef, IfNull, Goto, TableSwitch, LookupSwitch, Return, GetStatic, PutStatic, GetField, PutField, Invoke, New, NewArray, ANewArray, ArrayLength, Athrow, CheckCast, InstanceOf, MultiNewArray}
use Rattle.class_model.specs.declared.class.CodeDef.{CodeDef}

-- a primitive weighs the first number, a reference the second
abbrev pub by_kind : Kind → ℕ → ℕ → ℕ
by_kind kinds.Int primitive reference = primitive
by_kind kinds.Long primitive reference = primitive
by_kind kinds.Ref primitive reference = reference

abbrev pub by_elem : Elem → ℕ → ℕ → ℕ
by_elem elems.Ref primitive reference = reference
by_elem _ primitive reference = primitive

abbrev pub stack_weight : StackOp → ℕ
stack_weight Pop = 1
stack_weight Pop2 = 1
stack_weight Dup = 12
stack_weight DupX1 = 28
stack_weight DupX2 = 36
stack_weight Dup2 = 20
stack_weight Dup2X1 = 44
stack_weight Dup2X2 = 52
stack_weight Swap = 20

abbrev pub return_weight : Option Kind → ℕ
return_weight None = 4
return_weight (Some kind) = by_kind kind 16 12

-- a row a shape, in the order of the enum of instructions
unfoldable pub insn_weight : Insn → ℕ
insn_weight Nop = 1
insn_weight PushNull = 1
insn_weight (PushInt n) = 8
insn_weight (PushLong n) = 8
insn_weight (PushString text) = 6
insn_weight (Load kind slot) = by_kind kind 12 4
insn_weight (Store kind slot) = by_kind kind 12 4
insn_weight (ArrayLoad elem) = by_elem elem 24 4
insn_weight (ArrayStore elem) = by_elem elem 16 4
insn_weight (Stack op) = stack_weight op
insn_weight (Bin width op) = 16
insn_weight (Shift width op) = 16
insn_weight (Neg width) = 4
insn_weight (Iinc slot step) = 8
insn_weight (Convert conv) = 4
insn_weight Lcmp = 16
insn_weight (If cond target) = 8
insn_weight (IfInt cond target) = 8
insn_weight (IfRef same target) = 8
insn_weight (IfNull null target) = 8
insn_weight (Goto target) = 8
insn_weight (TableSwitch low default targets) = 24 + 4 * length targets
insn_weight (LookupSwitch default rows) = 24 + 8 * length rows
insn_weight (Return kind) = return_weight kind
insn_weight (GetStatic field) = 12
insn_weight (PutStatic field) = 12
insn_weight (GetField field) = 12
insn_weight (PutField field) = 20
insn_weight (Invoke kind method) = 20 + 4 * length method.desc.params  -- the receiver is no argument
insn_weight (New class) = 4
insn_weight (NewArray primitive) = 4
insn_weight (ANewArray ty) = 4
insn_weight ArrayLength = 12
insn_weight Athrow = 4
insn_weight (CheckCast ty) = 4
insn_weight (InstanceOf ty) = 8
insn_weight (MultiNewArray ty dimensions) = 32

-- the weight of code: what is written before its first instruction, and its instructions
unfoldable pub code_weight : CodeDef → ℕ
code_weight code = 160 + 32 * code.max_locals + 8 * code.max_stack + sum_by insn_weight code.insns
