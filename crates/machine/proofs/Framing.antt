-- The rows of the top frame alone, whatever the areas are.
use Rattle.std.proofs.Common.{◌≡◌, List, refl, ap, sym, ◌∙◌}
use Rattle.class_model.specs.declared.insn.Insn.{Insn}
use Rattle.run_state.specs.State.{Outside, live}
use Rattle.run_state.specs.State as state
use Rattle.run_state.specs.Unwinding.{throws}
use Rattle.machine_frames.specs.declared.frame.Frame.{Frame}
use Rattle.machine_frames.specs.declared.frame_op.FrameOp.{FrameOp}
use Rattle.machine_frames.specs.declared.flow.Flow.{Flow}
use Rattle.machine_frames.specs.declared.flow.Flow.TheVariants as flow
use Rattle.machine_frames.specs.Acts.{Around, Does, exception_of}
use Rattle.machine_frames.specs.FrameOps.{frame_insn}
use Rattle.linked_code.specs.declared.op.Op.{Op}
use Rattle.linked_code.specs.declared.op.Op.TheVariants as op
use Rattle.linked_code.specs.declared.program.Program.{Program}
use Rattle.linked_code.specs.World.{World, tags_of}
use Rattle.linked_code.specs.Linked.{Linked}
use Rattle.machine.specs.declared.state.Areas.{Areas}
use Rattle.machine.specs.Shown.{areas_of}
use Rattle.machine.specs.Acted.{acted, Acts, Stays}

module _ {T : Type 0} (none : T) (join : T → T → T) (p : Program T) where
  abbrev around : World T → Outside → List (state.Frame T) → Frame T → Areas T → Around T
  around w o below f a = record { marked = w.marked; entered = w.entered; looks = w.looks; outside = o; areas = areas_of w a; method = w.method f.method; below = below }

  -- an instruction that a linked one stands for, and that does this to the frame
  pub does_acts : (o : Op) (j : Insn) (f g : Frame T) (a : Areas T) (k : Flow) → ((w : World T) (i : Insn) → Linked w p i o → i ≡ j) → Does none join j f g k → Acts none join p o f a k g a
  does_acts o j f g a flow.Next is d = record {
    by = λ w i out below links h.
        ap (λ x. acted none join w out below x f a) (is w i h)
        ∙ d.1 (around w out below f a)
        ∙ ap (λ n. live out (areas_of w a) (w.method n) g.next g.locals g.stack below) (sym d.0);
  }
  does_acts o j f g a flow.Stuck is d = record { by = λ w i out below links h. ap (λ x. acted none join w out below x f a) (is w i h) ∙ d.1 (around w out below f a) }
  does_acts o j f g a (flow.Throws k) is d = record {
    by = λ w i out below links h.
        ap (λ x. acted none join w out below x f a) (is w i h)
        ∙ d.1 (around w out below f a)
        ∙ ap (λ (x : Frame T). throws (tags_of none join w) w.looks out (areas_of w a) (exception_of k) below (w.method x.method) g.next g.locals) (sym d.0);
  }

  pub frame_acts : (o : FrameOp) (f g : Frame T) (a : Areas T) (k : Flow) → Does none join (frame_insn o) f g k → Acts none join p (op.Frame o) f a k g a
  frame_acts o f g a k d = does_acts (op.Frame o) (frame_insn o) f g a k (λ w i h. h) d

-- a fault leaves the frame as it was
pub frame_stays : {T : Type 0} (none : T) (join : T → T → T) (j : Insn) (f g : Frame T) (a : Areas T) (k : Flow) → Does none join j f g k → Stays k f a g a
frame_stays none join j f g a flow.Next d = tt
frame_stays none join j f g a flow.Stuck d = tt
frame_stays none join j f g a (flow.Throws k) d = (d.0, refl)
