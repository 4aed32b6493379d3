-- Instructions that name nothing, and those that do.
use Rattle.std.specs.Prelude.{Option, Some, None}
use Rattle.class_model.specs.declared.insn.Insn.{Insn}
use Rattle.class_model.specs.declared.insn.Insn.TheVariants as insn
use Rattle.machine_frames.specs.FrameOps.{frame_insn}
use Rattle.linked_code.specs.declared.op.Op.{Op}
use Rattle.linked_code.specs.declared.op.Op.TheVariants as op

-- the instruction that a linked one is, where it has no number
abbrev pub plain_insn : Op → Option Insn
plain_insn (op.Frame o) = Some (frame_insn o)
plain_insn op.Return = Some (insn.Return None)
plain_insn (op.ReturnValue k) = Some (insn.Return (Some k))
plain_insn op.ArrayLength = Some insn.ArrayLength
plain_insn (op.ArrayLoad e) = Some (insn.ArrayLoad e)
plain_insn (op.ArrayStore e) = Some (insn.ArrayStore e)
plain_insn op.Throw = Some insn.Athrow
plain_insn _ = None

-- an instruction that names a text, targets, a member, a class or a type
abbrev pub Names : Insn → Type 0
Names (insn.PushString text) = Unit {0}
Names (insn.TableSwitch low default targets) = Unit {0}
Names (insn.LookupSwitch default rows) = Unit {0}
Names (insn.GetStatic field) = Unit {0}
Names (insn.PutStatic field) = Unit {0}
Names (insn.GetField field) = Unit {0}
Names (insn.PutField field) = Unit {0}
Names (insn.Invoke kind method) = Unit {0}
Names (insn.New class) = Unit {0}
Names (insn.NewArray primitive) = Unit {0}
Names (insn.ANewArray ty) = Unit {0}
Names (insn.CheckCast ty) = Unit {0}
Names (insn.InstanceOf ty) = Unit {0}
Names (insn.MultiNewArray ty sizes) = Unit {0}
Names _ = ⊥

-- of these, one that names a text, targets, a class or a type, or a member
abbrev pub IsOfType : Insn → Type 0
IsOfType (insn.PushString text) = Unit {0}
IsOfType (insn.TableSwitch low default targets) = Unit {0}
IsOfType (insn.LookupSwitch default rows) = Unit {0}
IsOfType (insn.New class) = Unit {0}
IsOfType (insn.NewArray primitive) = Unit {0}
IsOfType (insn.ANewArray ty) = Unit {0}
IsOfType (insn.CheckCast ty) = Unit {0}
IsOfType (insn.InstanceOf ty) = Unit {0}
IsOfType (insn.MultiNewArray ty sizes) = Unit {0}
IsOfType _ = ⊥

abbrev pub IsOfMember : Insn → Type 0
IsOfMember (insn.GetStatic field) = Unit {0}
IsOfMember (insn.PutStatic field) = Unit {0}
IsOfMember (insn.GetField field) = Unit {0}
IsOfMember (insn.PutField field) = Unit {0}
IsOfMember (insn.Invoke kind method) = Unit {0}
IsOfMember _ = ⊥
