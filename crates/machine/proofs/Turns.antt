-- The classes that an instruction needs begun, and what becomes of its turn.
use Rattle.std.proofs.Common.{◌≡◌, ◌≢◌, ℕ, List, [], ◌∷◌, ◌++◌, map, Option, Some, None, refl, sym, ap, ◌∙◌}
use Rattle.std.specs.Prelude.{Bool, true, false, slice_get}
use Rattle.class_model.specs.declared.insn.InvokeKind.TheVariants as invoke
use Rattle.class_model.specs.declared.insn.Insn.{Insn}
use Rattle.run_state.specs.State.{Method, Outside, Running}
use Rattle.run_state.specs.State as state
use Rattle.run_state.specs.Step.{needs_of, starts_of, static_needs, beginning, to_start, with_frames, classes_of}
use Rattle.machine_frames.specs.declared.frame.Frame.{Frame}
use Rattle.linked_code.specs.declared.op.Op.{Op}
use Rattle.linked_code.specs.declared.op.Op.TheVariants as op
use Rattle.linked_code.specs.declared.program.Call.{Call}
use Rattle.linked_code.specs.declared.program.Table.{Table}
use Rattle.linked_code.specs.declared.program.Rows.{Rows}
use Rattle.linked_code.specs.declared.program.Program.{Program}
use Rattle.linked_code.specs.World.{World}
use Rattle.linked_code.specs.Numbered.{method_at, class_at}
use Rattle.linked_code.specs.Linked.{Linked, IsTable, AreRows, IsCallAt, OfNumbers, OfReferences}
use Rattle.linked_code.specs.Links.{Links}
use Rattle.machine.specs.declared.state.Machine.{Machine}
use Rattle.machine.specs.declared.state.Ending.TheVariants as ending
use Rattle.machine.specs.Beginning.{needed_by, waiting, with_blanks, with_classes}
use Rattle.machine.specs.Stacked.{Begins, Stacks, stacked, when_framed}
use Rattle.machine.specs.Shown.{shown, frame_of, frames_of, areas_of, outside_of, ending_of}
use Rattle.machine.specs.Unwound.{done_at}
use Rattle.machine.specs.Turned.{turned_at}
use Rattle.machine.proofs.Running.{frame_needs}
use Rattle.machine.proofs.Starting.{waiting_is, classes_are, frames_are}

module _ {T : Type 0} (none : T) (w : World T) (p : Program T) (links : Links none w p) where
  abbrev pub starts_by : Option ℕ → List Method
  starts_by None = []
  starts_by (Some n) = map w.method (class_at p n).starts

  table_needs : (i : Insn) (o : Option Table) → IsTable i o → needs_of w.looks (Some i) ≡ []
  table_needs i None h = absurd h
  table_needs i (Some t) h = ap (λ x. needs_of w.looks (Some x)) h

  rows_needs : (i : Insn) (o : Option Rows) → AreRows i o → needs_of w.looks (Some i) ≡ []
  rows_needs i None h = absurd h
  rows_needs i (Some r) h = ap (λ x. needs_of w.looks (Some x)) h

  special_needs : (i : Insn) (o : Option Call) → IsCallAt w p invoke.Special i o → needs_of w.looks (Some i) ≡ []
  special_needs i None h = absurd h
  special_needs i (Some c) h = ap (λ x. needs_of w.looks (Some x)) h.is

  virtual_needs : (i : Insn) (o : Option Call) → IsCallAt w p invoke.Virtual i o → needs_of w.looks (Some i) ≡ []
  virtual_needs i None h = absurd h
  virtual_needs i (Some c) h = ap (λ x. needs_of w.looks (Some x)) h.is

  interface_needs : (i : Insn) (o : Option Call) → IsCallAt w p invoke.Interface i o → needs_of w.looks (Some i) ≡ []
  interface_needs i None h = absurd h
  interface_needs i (Some c) h = ap (λ x. needs_of w.looks (Some x)) h.is

  -- what an instruction needs begun is what its linked one does
  pub needs_linked : (i : Insn) (o : Op) → Linked w p i o → needs_of w.looks (Some i) ≡ starts_by (needed_by p o)
  needs_linked i (op.Frame f) h = ap (λ x. needs_of w.looks (Some x)) h ∙ frame_needs w.looks f
  needs_linked i (op.TableSwitch n) h = table_needs i (slice_get p.tables n) h
  needs_linked i (op.LookupSwitch n) h = rows_needs i (slice_get p.rows n) h
  needs_linked i op.Return h = ap (λ x. needs_of w.looks (Some x)) h
  needs_linked i (op.ReturnValue k) h = ap (λ x. needs_of w.looks (Some x)) h
  needs_linked i (op.InvokeStatic n) h =
      ap (λ x. needs_of w.looks (Some x)) h.is ∙ ap (starts_of w.looks) h.method ∙ ap w.looks.starts (links.methods n).class ∙ (links.classes (method_at p n).class).starts
  needs_linked i (op.InvokeSpecial n) h = special_needs i (slice_get p.calls n) h
  needs_linked i (op.InvokeVirtual n) h = virtual_needs i (slice_get p.calls n) h
  needs_linked i (op.InvokeInterface n) h = interface_needs i (slice_get p.calls n) h
  needs_linked i (op.PushText n) h = ap (λ x. needs_of w.looks (Some x)) h.1
  needs_linked i (op.GetStatic n place) h = ap (λ x. needs_of w.looks (Some x)) h.is ∙ ap (static_needs w.looks) h.found ∙ (links.classes n).starts
  needs_linked i (op.GetText n text) h = ap (λ x. needs_of w.looks (Some x)) h.1.1.is ∙ ap (static_needs w.looks) h.1.1.found ∙ (links.classes n).starts
  needs_linked i (op.PutStatic n place k keeps) h = ap (λ x. needs_of w.looks (Some x)) h.is ∙ ap (static_needs w.looks) h.found ∙ (links.classes n).starts
  needs_linked i (op.GetField place) h = ap (λ x. needs_of w.looks (Some x)) h.is
  needs_linked i (op.PutField place k keeps) h = ap (λ x. needs_of w.looks (Some x)) h.is
  needs_linked i (op.New n) h = ap (λ x. needs_of w.looks (Some x)) h ∙ (links.classes n).starts
  needs_linked i (op.NewArray n) (OfNumbers q e t) = ap (λ x. needs_of w.looks (Some x)) e
  needs_linked i (op.NewArray n) (OfReferences q e t) = ap (λ x. needs_of w.looks (Some x)) e
  needs_linked i (op.MultiNewArray n sizes) h = ap (λ x. needs_of w.looks (Some x)) h
  needs_linked i op.ArrayLength h = ap (λ x. needs_of w.looks (Some x)) h
  needs_linked i (op.ArrayLoad e) h = ap (λ x. needs_of w.looks (Some x)) h
  needs_linked i (op.ArrayStore e) h = ap (λ x. needs_of w.looks (Some x)) h
  needs_linked i op.Throw h = ap (λ x. needs_of w.looks (Some x)) h
  needs_linked i (op.CheckCast n) h = ap (λ x. needs_of w.looks (Some x)) h
  needs_linked i (op.InstanceOf n) h = ap (λ x. needs_of w.looks (Some x)) h

  module _ (join : T → T → T) (m : Machine T) (more : List ℕ) (i : Insn) (o : Op) (linked : Linked w p i o) where
    turn_with : List Method → state.State T
    turn_with ms = beginning ms (outside_of w m more) (areas_of w m.areas) (frame_of w m.top ∷ map (frame_of w) m.below) (done_at none join w i m more)

    to_begin : (n : ℕ) → needed_by p o ≡ Some n → to_start (map w.class m.begun) (needs_of w.looks (Some i)) ≡ map w.method (waiting p m.begun (class_at p n).starts)
    to_begin n e = ap (to_start (map w.class m.begun)) (needs_linked i o linked ∙ ap starts_by e) ∙ sym (waiting_is none w p links m.begun (class_at p n).starts)

    -- where no class is needed, or all have begun, the instruction is done
    pub not_needed : needed_by p o ≡ None → turned_at none join w i m more ≡ done_at none join w i m more
    unfolding turn_with
    not_needed e = ap (λ ms. turn_with (to_start (map w.class m.begun) ms)) (needs_linked i o linked ∙ ap starts_by e)

    pub all_begun : (n : ℕ) → needed_by p o ≡ Some n → waiting p m.begun (class_at p n).starts ≡ [] → turned_at none join w i m more ≡ done_at none join w i m more
    unfolding turn_with
    all_begun n e none_waits = ap turn_with (to_begin n e ∙ ap (map w.method) none_waits)

    framed_list : (b : Bool) (top : Frame T) (below : List (Frame T)) → frames_of w b top below ≡ map (frame_of w) (when_framed b top below)
    framed_list true top below = refl
    framed_list false top below = refl

    started : (ws : List ℕ) (new : Machine T) → ws ≢ [] → new.begun ≡ with_classes p ws m.begun → Stacks m (record new { begun = m.begun }) (with_blanks p ws (stacked m)) → m.framed ≡ true → m.ending ≡ ending.Running
        → shown w new more ≡ turn_with (map w.method ws)
    unfolding turn_with
    started [] new some begun stands framed running = absurd (some refl)
    started (x ∷ xs) new some begun stands framed running =
        let ws = x ∷ xs in
        let o = outside_of w m more in
        let fs = frame_of w m.top ∷ map (frame_of w) m.below in
        let others = stands.others in
        let frames : frames_of w new.framed new.top new.below ≡ with_frames (map w.method ws) fs =
        framed_list new.framed new.top new.below ∙ ap (map (frame_of w)) stands.frames ∙ frames_are none w p links ws (stacked m)
        ∙ ap (λ b. with_frames (map w.method ws) (map (frame_of w) (when_framed b m.top m.below))) framed in
        let classes = ap (map w.class) begun ∙ classes_are none w p links ws m.begun in
        ap (λ (q : List (state.Frame T)). record { frames = q; areas = areas_of w new.areas; outside = outside_of w new more; ending = ending_of w new.ending }) frames
        ∙ ap (λ (q : Machine T). record { frames = with_frames (map w.method ws) fs; areas = areas_of w q.areas; outside = record (outside_of w q more) { begun = map w.class new.begun }; ending = ending_of w q.ending }) others
        ∙ ap (λ (q : List (List ℕ)). record { frames = with_frames (map w.method ws) fs; areas = areas_of w m.areas; outside = record o { begun = q }; ending = ending_of w m.ending }) classes
        ∙ ap (λ e. record { frames = with_frames (map w.method ws) fs; areas = areas_of w m.areas; outside = record o { begun = classes_of (map w.method ws) ++ o.begun }; ending = ending_of w e }) running

    -- the classes that it needs begin
    pub begin_turn : (n : ℕ) (new : Machine T) → needed_by p o ≡ Some n → Begins p (class_at p n).starts m true new → m.framed ≡ true → m.ending ≡ ending.Running → shown w new more ≡ turned_at none join w i m more
    unfolding turn_with
    begin_turn n new e begins framed running =
        started (waiting p m.begun (class_at p n).starts) new begins.0 begins.1 begins.2 framed running ∙ sym (ap turn_with (to_begin n e))
