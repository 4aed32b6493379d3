-- Instructions by what stands behind their opcode.
use Rattle.class_model.specs.declared.insn.Insn.{Insn}
use Rattle.class_model.specs.declared.insn.Insn.TheVariants.{Nop, PushNull, PushInt, PushLong, PushString, Load, Store, ArrayLoad, ArrayStore, Stack, Bin, Shift, Neg, Iinc, Convert, Lcmp, If, IfInt, IfRef, IfNull, Goto, TableSwitch, LookupSwitch, Return, GetStatic, PutStatic, GetField, PutField, Invoke, New, NewArray, ANewArray, ArrayLength, Athrow, CheckCast, InstanceOf, MultiNewArray}

-- nothing
abbrev pub IsAlone : Insn → Type 0
IsAlone Nop = Unit {0}
IsAlone PushNull = Unit {0}
IsAlone (ArrayLoad elem) = Unit {0}
IsAlone (ArrayStore elem) = Unit {0}
IsAlone (Stack op) = Unit {0}
IsAlone (Bin width op) = Unit {0}
IsAlone (Shift width op) = Unit {0}
IsAlone (Neg width) = Unit {0}
IsAlone (Convert conv) = Unit {0}
IsAlone Lcmp = Unit {0}
IsAlone (Return kind) = Unit {0}
IsAlone ArrayLength = Unit {0}
IsAlone Athrow = Unit {0}
IsAlone insn = ⊥

-- a constant, a local, or an element type
abbrev pub IsNumber : Insn → Type 0
IsNumber (PushInt n) = Unit {0}
IsNumber (PushLong n) = Unit {0}
IsNumber (Load kind slot) = Unit {0}
IsNumber (Store kind slot) = Unit {0}
IsNumber (Iinc slot step) = Unit {0}
IsNumber (NewArray primitive) = Unit {0}
IsNumber insn = ⊥

-- one distance
abbrev pub IsJump : Insn → Type 0
IsJump (If cond target) = Unit {0}
IsJump (IfInt cond target) = Unit {0}
IsJump (IfRef same target) = Unit {0}
IsJump (IfNull null target) = Unit {0}
IsJump (Goto target) = Unit {0}
IsJump insn = ⊥

-- distances by numbers
abbrev pub IsSwitch : Insn → Type 0
IsSwitch (TableSwitch low default targets) = Unit {0}
IsSwitch (LookupSwitch default rows) = Unit {0}
IsSwitch insn = ⊥

-- an index of the constant pool, whatever the instruction
abbrev pub IsIndexed : Insn → Type 0
IsIndexed (PushString units) = Unit {0}
IsIndexed (GetStatic field) = Unit {0}
IsIndexed (PutStatic field) = Unit {0}
IsIndexed (GetField field) = Unit {0}
IsIndexed (PutField field) = Unit {0}
IsIndexed (Invoke kind method) = Unit {0}
IsIndexed (New class) = Unit {0}
IsIndexed (ANewArray ty) = Unit {0}
IsIndexed (CheckCast ty) = Unit {0}
IsIndexed (InstanceOf ty) = Unit {0}
IsIndexed (MultiNewArray ty dimensions) = Unit {0}
IsIndexed insn = ⊥

-- a constant
abbrev pub IsPush : Insn → Type 0
IsPush (PushInt n) = Unit {0}
IsPush (PushLong n) = Unit {0}
IsPush (PushString units) = Unit {0}
IsPush insn = ⊥
