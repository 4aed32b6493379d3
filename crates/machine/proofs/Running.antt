-- One step more of a frame.
use Rattle.std.proofs.Common.{◌≡◌, ℕ, zero, suc, ◌+◌, List, [], ◌∷◌, Option, Some, None, refl, ap, sym, ◌∙◌, subst, arith}
use Rattle.std.specs.Prelude.{true, false, slice_get}
use Rattle.class_model.specs.declared.insn.Insn.{Insn}
use Rattle.run_state.specs.State.{Outside, live}
use Rattle.run_state.specs.State as state
use Rattle.run_state.specs.Looks.{Looks}
use Rattle.run_state.specs.Tags.{Tags}
use Rattle.run_state.specs.Step.{act, step, run, needs_of, beginning, to_start}
use Rattle.machine_frames.specs.declared.frame.Frame.{Frame}
use Rattle.machine_frames.specs.declared.frame_op.FrameOp.{FrameOp}
use Rattle.machine_frames.specs.declared.frame_op.FrameOp.TheVariants as frame
use Rattle.machine_frames.specs.declared.flow.Flow.TheVariants as flow
use Rattle.machine_frames.specs.Acts.{Around, Does}
use Rattle.machine_frames.specs.FrameOps.{frame_insn}
use Rattle.linked_code.specs.declared.op.Op.{Op}
use Rattle.linked_code.specs.declared.op.Op.TheVariants as op
use Rattle.linked_code.specs.declared.program.Program.{Program}
use Rattle.linked_code.specs.World.{World, tags_of}
use Rattle.linked_code.specs.Linked.{Linked, LinkedAt}
use Rattle.linked_code.specs.Numbered.{method_at}
use Rattle.linked_code.specs.Links.{Links}
use Rattle.machine.specs.Ran.{Runs, topped}

-- n steps and one more
run_more : {T : Type 0} (M : Tags T) (L : Looks) (n : ℕ) (s : state.State T) → run M L (suc n) s ≡ step M L (run M L n s)
run_more M L zero s = refl
run_more M L (suc n) s = run_more M L n (step M L s)

pub frame_needs : (L : Looks) (o : FrameOp) → needs_of L (Some (frame_insn o)) ≡ []
frame_needs L frame.Nop = refl
frame_needs L frame.PushNull = refl
frame_needs L (frame.PushInt v) = refl
frame_needs L (frame.PushLong v) = refl
frame_needs L (frame.Load k i) = refl
frame_needs L (frame.Store k i) = refl
frame_needs L (frame.Stack o) = refl
frame_needs L (frame.Bin w o) = refl
frame_needs L (frame.Shift w o) = refl
frame_needs L (frame.Neg w) = refl
frame_needs L (frame.Iinc i step) = refl
frame_needs L (frame.Convert c) = refl
frame_needs L frame.Lcmp = refl
frame_needs L (frame.If c target) = refl
frame_needs L (frame.IfInt c target) = refl
frame_needs L (frame.IfRef same target) = refl
frame_needs L (frame.IfNull null target) = refl
frame_needs L (frame.Goto target) = refl

module _ {T : Type 0} (none : T) (join : T → T → T) where
  insn_at : (w : World T) (p : Program T) (i : Option Insn) (o : Option Op) (x : FrameOp) → LinkedAt w p i o → o ≡ Some (op.Frame x) → i ≡ Some (frame_insn x)
  insn_at w p None None x h e = cc
  insn_at w p None (Some o) x h e = absurd h
  insn_at w p (Some i) None x h e = absurd h
  insn_at w p (Some i) (Some o) x h e =
      let same : o ≡ op.Frame x = cc in
      let h2 : Linked w p i (op.Frame x) = subst (λ q. Linked w p i q) same h in
      ap Some h2

  -- the step of a frame that is at an instruction which needs no class begun
  one_step : (w : World T) (o : Outside) (ar : state.Areas T) (below : List (state.Frame T)) (f : Frame T) (i : Insn) → slice_get (w.method f.method).code f.next ≡ Some i → needs_of w.looks (Some i) ≡ []
      → step (tags_of none join w) w.looks (topped w o ar below f) ≡ act (tags_of none join w) w.looks (Some i) o ar (w.method f.method) f.next f.locals f.stack below
  one_step w o ar below f i at needs =
      let M = tags_of none join w in
      let d = w.method f.method in
      let top : state.Frame T = record { method = d; next = f.next; locals = f.locals; stack = f.stack } in
      ap (λ x. beginning (to_start o.begun (needs_of w.looks x)) o ar (top ∷ below) (act M w.looks x o ar d f.next f.locals f.stack below)) at
      ∙ ap (λ ms. beginning (to_start o.begun ms) o ar (top ∷ below) (act M w.looks (Some i) o ar d f.next f.locals f.stack below)) needs

  around : (w : World T) (o : Outside) (ar : state.Areas T) (below : List (state.Frame T)) (f : Frame T) → Around T
  around w o ar below f = record { marked = w.marked; entered = w.entered; looks = w.looks; outside = o; areas = ar; method = w.method f.method; below = below }

  module _ (code : List Op) (f g h : Frame T) (n k : ℕ) (x : FrameOp) (at : slice_get code g.next ≡ Some (op.Frame x)) (so_far : Runs none join code f n false g) (one : k ≡ n + 1) where
    stepped : (w : World T) (p : Program T) (o : Outside) (ar : state.Areas T) (below : List (state.Frame T)) → Links none w p → (method_at p f.method).code ≡ code
        → run (tags_of none join w) w.looks k (topped w o ar below f) ≡ act (tags_of none join w) w.looks (Some (frame_insn x)) o ar (w.method g.method) g.next g.locals g.stack below
    stepped w p o ar below links is =
        let M = tags_of none join w in
        let more : k ≡ suc n = omega arith in
        let linked = (links.methods g.method).code g.next in
        let here : slice_get (method_at p g.method).code g.next ≡ Some (op.Frame x) = ap (λ m. slice_get (method_at p m).code g.next) (so_far.method refl) ∙ ap (λ c. slice_get c g.next) is ∙ at in
        let insn = insn_at w p (slice_get (w.method g.method).code g.next) (slice_get (method_at p g.method).code g.next) x linked here in
        ap (λ q. run M w.looks q (topped w o ar below f)) more
        ∙ run_more M w.looks n (topped w o ar below f)
        ∙ ap (step M w.looks) (so_far.by w p o ar below links is)
        ∙ one_step w o ar below g (frame_insn x) insn (frame_needs w.looks x)

    pub runs_on : Does none join (frame_insn x) g h flow.Next → Runs none join code f k false h
    unfolding around
    runs_on d = record {
      method = λ e. d.0 ∙ so_far.method refl;
      by = λ w p o ar below links is.
          stepped w p o ar below links is
          ∙ d.1 (around w o ar below g)
          ∙ ap (λ m. live o ar (w.method m) h.next h.locals h.stack below) (sym d.0);
    }

    pub runs_out : Does none join (frame_insn x) g h flow.Stuck → Runs none join code f k true h
    unfolding around
    runs_out d = record {
      method = λ e. cc;
      by = λ w p o ar below links is. stepped w p o ar below links is ∙ d.1 (around w o ar below g);
    }

  pub runs_none : (code : List Op) (f : Frame T) → Runs none join code f 0 false f
  runs_none code f = record { method = λ e. refl; by = λ w p o ar below links is. refl }
