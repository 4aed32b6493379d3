-- The shapes by family, as the check of each is written.
use Rattle.class_model.specs.declared.insn.Insn.{Insn}
use Rattle.class_model.specs.declared.insn.Insn.TheVariants.{Nop, PushNull, PushInt, PushLong, PushString, Load, Store, ArrayLoad, ArrayStore, Stack, Bin, Shift, Neg, Iinc, Convert, Lcmp, If, IfInt, IfRef, IfNull, Goto, TableSwitch, LookupSwitch, Return, GetStatic, PutStatic, GetField, PutField, Invoke, New, NewArray, ANewArray, ArrayLength, Athrow, CheckCast, InstanceOf, MultiNewArray}

-- constants and locals
abbrev pub IsConstantOrLocal : Insn → Type 0
IsConstantOrLocal Nop = Unit {0}
IsConstantOrLocal PushNull = Unit {0}
IsConstantOrLocal (PushInt number) = Unit {0}
IsConstantOrLocal (PushLong number) = Unit {0}
IsConstantOrLocal (PushString text) = Unit {0}
IsConstantOrLocal (Load kind slot) = Unit {0}
IsConstantOrLocal (Store kind slot) = Unit {0}
IsConstantOrLocal (Iinc slot step) = Unit {0}
IsConstantOrLocal _ = ⊥

-- arithmetic and stack words
abbrev pub IsNumeric : Insn → Type 0
IsNumeric (Stack op) = Unit {0}
IsNumeric (Bin width op) = Unit {0}
IsNumeric (Shift width op) = Unit {0}
IsNumeric (Neg width) = Unit {0}
IsNumeric (Convert conv) = Unit {0}
IsNumeric Lcmp = Unit {0}
IsNumeric _ = ⊥

-- branches, switches, returns and throws
abbrev pub IsJump : Insn → Type 0
IsJump (If cond target) = Unit {0}
IsJump (IfInt cond target) = Unit {0}
IsJump (IfRef same target) = Unit {0}
IsJump (IfNull null target) = Unit {0}
IsJump (Goto target) = Unit {0}
IsJump (TableSwitch low default targets) = Unit {0}
IsJump (LookupSwitch default rows) = Unit {0}
IsJump (Return kind) = Unit {0}
IsJump Athrow = Unit {0}
IsJump _ = ⊥

-- fields, calls and new objects
abbrev pub IsMember : Insn → Type 0
IsMember (GetStatic field) = Unit {0}
IsMember (PutStatic field) = Unit {0}
IsMember (GetField field) = Unit {0}
IsMember (PutField field) = Unit {0}
IsMember (Invoke kind target) = Unit {0}
IsMember (New class) = Unit {0}
IsMember _ = ⊥

-- arrays and casts
abbrev pub IsArrayOrCast : Insn → Type 0
IsArrayOrCast (ArrayLoad elem) = Unit {0}
IsArrayOrCast (ArrayStore elem) = Unit {0}
IsArrayOrCast (NewArray primitive) = Unit {0}
IsArrayOrCast (ANewArray ty) = Unit {0}
IsArrayOrCast ArrayLength = Unit {0}
IsArrayOrCast (CheckCast ty) = Unit {0}
IsArrayOrCast (InstanceOf ty) = Unit {0}
IsArrayOrCast (MultiNewArray ty dimensions) = Unit {0}
IsArrayOrCast _ = ⊥
