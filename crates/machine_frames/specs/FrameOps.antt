-- The instructions that concern the top frame alone.
use Rattle.class_model.specs.declared.insn.Insn.{Insn}
use Rattle.class_model.specs.declared.insn.Insn.TheVariants as insn
use Rattle.machine_frames.specs.declared.frame_op.FrameOp.{FrameOp}
use Rattle.machine_frames.specs.declared.frame_op.FrameOp.TheVariants as op

-- the instruction that each of them is
abbrev pub frame_insn : FrameOp → Insn
frame_insn op.Nop = insn.Nop
frame_insn op.PushNull = insn.PushNull
frame_insn (op.PushInt v) = insn.PushInt v
frame_insn (op.PushLong v) = insn.PushLong v
frame_insn (op.Load k i) = insn.Load k i
frame_insn (op.Store k i) = insn.Store k i
frame_insn (op.Stack o) = insn.Stack o
frame_insn (op.Bin w o) = insn.Bin w o
frame_insn (op.Shift w o) = insn.Shift w o
frame_insn (op.Neg w) = insn.Neg w
frame_insn (op.Iinc i step) = insn.Iinc i step
frame_insn (op.Convert c) = insn.Convert c
frame_insn op.Lcmp = insn.Lcmp
frame_insn (op.If c target) = insn.If c target
frame_insn (op.IfInt c target) = insn.IfInt c target
frame_insn (op.IfRef same target) = insn.IfRef same target
frame_insn (op.IfNull null target) = insn.IfNull null target
frame_insn (op.Goto target) = insn.Goto target

-- the families
abbrev pub IsMove : FrameOp → Type 0
IsMove op.Nop = Unit {0}
IsMove op.PushNull = Unit {0}
IsMove (op.PushInt v) = Unit {0}
IsMove (op.PushLong v) = Unit {0}
IsMove (op.Load k i) = Unit {0}
IsMove (op.Store k i) = Unit {0}
IsMove (op.Stack o) = Unit {0}
IsMove _ = ⊥

abbrev pub IsBranch : FrameOp → Type 0
IsBranch (op.If c target) = Unit {0}
IsBranch (op.IfInt c target) = Unit {0}
IsBranch (op.IfRef same target) = Unit {0}
IsBranch (op.IfNull null target) = Unit {0}
IsBranch (op.Goto target) = Unit {0}
IsBranch _ = ⊥
