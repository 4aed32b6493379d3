-- The instruction that a frame is at.
use Rattle.std.specs.Prelude.{◌≡◌, Some, None, slice_get}
use Rattle.class_model.specs.declared.insn.Insn.{Insn}
use Rattle.machine_frames.specs.declared.frame.Frame.{Frame}
use Rattle.linked_code.specs.declared.op.Op.{Op}
use Rattle.linked_code.specs.declared.program.Program.{Program}
use Rattle.linked_code.specs.World.{World}
use Rattle.linked_code.specs.Linked.{Linked}

-- the code has ended
abbrev pub FetchesNone : {T : Type 0} → World T → Frame T → Type 0
FetchesNone w f = slice_get (w.method f.method).code f.next ≡ None

-- a linked instruction, and the one that it stands for
pub record Fetches {T : Type 0} (w : World T) (p : Program T) (f : Frame T) (o : Op) : Type 0 where
  pub insn : Insn
  pub at : slice_get (w.method f.method).code f.next ≡ Some insn
  pub linked : Linked w p insn o
