-- A step of the machine: of the top frame, and of the root frame.
use Rattle.std.proofs.Common.{◌≡◌, ◌≢◌, ℕ, ◌+◌, ◌-◌, List, [], ◌∷◌, ◌++◌, map, length, replicate, Option, Some, None, refl, ap, sym, subst, ◌∙◌, arith}
use Rattle.std.specs.Prelude.{Bool, true, false, slice_get, option_map}
use Rattle.std.proofs.lemmas.List.{length-map}
use Rattle.class_model.specs.declared.insn.Insn.{Insn}
use Rattle.run_state.specs.Words.{Word, Empty, Ref}
use Rattle.run_state.specs.State.{Method, live, rooted}
use Rattle.run_state.specs.State as state
use Rattle.run_state.specs.Operands.{on_some}
use Rattle.run_state.specs.Calls.{said, entered}
use Rattle.run_state.specs.Unwinding.{with_item}
use Rattle.run_state.specs.Step.{act, step, needs_of, beginning, to_start, with_frames, classes_of, starts_of, root_step, newest, empty_array, calling_main}
use Rattle.machine_heap.specs.declared.item.Item.{Item}
use Rattle.machine_frames.specs.declared.frame.Frame.{Frame}
use Rattle.linked_code.specs.declared.program.Program.{Program}
use Rattle.linked_code.specs.World.{World, tags_of}
use Rattle.linked_code.specs.Numbered.{method_at, class_at}
use Rattle.linked_code.specs.Links.{Links}
use Rattle.machine.specs.declared.state.Machine.{Machine}
use Rattle.machine.specs.declared.state.Phase.TheVariants as phase
use Rattle.machine.specs.declared.state.Ending.TheVariants as ending
use Rattle.machine.specs.Shown.{shown, frame_of, frames_of, areas_of, outside_of, ending_of, phase_of, item_of}
use Rattle.machine.specs.Beginning.{waiting, with_blanks, with_classes}
use Rattle.machine.specs.Stacked.{Begins, Stacks, stacked, when_framed}
use Rattle.machine.specs.Turned.{turned_at}
use Rattle.machine.proofs.Steps.{shown_live, with_one_more}
use Rattle.machine.proofs.Starting.{waiting_is, classes_are, frames_are}

module _ {T : Type 0} (none : T) (join : T → T → T) (w : World T) (m : Machine T) (more : List ℕ) (framed : m.framed ≡ true) (running : m.ending ≡ ending.Running) where
  turn_of : Option Insn → state.State T
  turn_of i =
      let o = outside_of w m more in
      let ar = areas_of w m.areas in
      let fs = map (frame_of w) m.below in
      beginning (to_start o.begun (needs_of w.looks i)) o ar (frame_of w m.top ∷ fs) (act (tags_of none join w) w.looks i o ar (w.method m.top.method) m.top.next m.top.locals m.top.stack fs)

  step_turns : (i : Option Insn) → slice_get (w.method m.top.method).code m.top.next ≡ i → step (tags_of none join w) w.looks (shown w m more) ≡ turn_of i
  unfolding turn_of
  step_turns i at = ap (step (tags_of none join w) w.looks) (shown_live none join w m more framed running) ∙ ap turn_of at

  pub step_at : (i : Insn) → slice_get (w.method m.top.method).code m.top.next ≡ Some i → turned_at none join w i m more ≡ step (tags_of none join w) w.looks (shown w m more)
  unfolding turn_of
  step_at i at = sym (step_turns (Some i) at)

  pub step_end : (new : Machine T) → slice_get (w.method m.top.method).code m.top.next ≡ None → new ≡ record m { framed = false; ending = ending.Stuck } → shown w new more ≡ step (tags_of none join w) w.looks (shown w m more)
  unfolding turn_of
  step_end new at is = ap (λ (x : Machine T). shown w x more) is ∙ sym (step_turns None at)

listed : {T : Type 0} (w : World T) (b : Bool) (top : Frame T) (below : List (Frame T)) → frames_of w b top below ≡ map (frame_of w) (when_framed b top below)
listed w true top below = refl
listed w false top below = refl

-- the last place of a heap
newest_from : {A : Type 0} (k : ℕ) (xs : List (state.Item A)) → newest xs k ≡ k + (length xs - 1)
newest_from k [] = omega arith
newest_from k (x ∷ []) = omega arith
newest_from k (x ∷ y ∷ xs) = newest_from (k + 1) (y ∷ xs) ∙ omega arith

pub newest_shown : {T : Type 0} (w : World T) (heap : List (Item T)) (place : ℕ) → place ≡ length heap - 1 → newest (map (item_of w) heap) 0 ≡ place
newest_shown w heap place e = newest_from 0 (map (item_of w) heap) ∙ omega (arith, length-map heap (item_of w))

module _ {T : Type 0} (none : T) (join : T → T → T) (w : World T) (p : Program T) (links : Links none w p) (m : Machine T) (more : List ℕ) (unframed : m.framed ≡ false) (running : m.ending ≡ ending.Running) where
  root_turn : state.Phase → state.State T
  root_turn at = root_step (tags_of none join w) w.looks at (outside_of w m more) (areas_of w m.areas)

  root_is : (k : state.Phase) → phase_of m.phase ≡ k → root_turn k ≡ step (tags_of none join w) w.looks (shown w m more)
  unfolding root_turn
  root_is k e =
      sym (ap (λ b. step (tags_of none join w) w.looks (record { frames = frames_of w b m.top m.below; areas = areas_of w m.areas; outside = outside_of w m more; ending = ending_of w m.ending })) unframed
      ∙ ap (λ q. step (tags_of none join w) w.looks (record { frames = []; areas = areas_of w m.areas; outside = outside_of w m more; ending = ending_of w q })) running
      ∙ ap root_turn e)

  no_frames : frames_of w m.framed m.top m.below ≡ []
  no_frames = ap (λ b. frames_of w b m.top m.below) unframed

  none_stacked : stacked m ≡ []
  none_stacked = ap (λ b. when_framed b m.top m.below) unframed

  starts_with : List Method → state.State T
  starts_with ms =
      let o = record (outside_of w m more) { phase = state.Makes } in
      beginning ms o (areas_of w m.areas) [] (rooted o (areas_of w m.areas))

  main_starts : (n : Option ℕ) → p.main ≡ n → root_turn state.Begins ≡ starts_with (to_start (map w.class m.begun) (starts_of w.looks (option_map w.method n)))
  unfolding root_turn starts_with
  main_starts n e = ap (λ q. starts_with (to_start (map w.class m.begun) (starts_of w.looks q))) (links.main ∙ ap (option_map w.method) e)

  begins_with : (n : ℕ) → p.main ≡ Some n → root_turn state.Begins ≡ starts_with (map w.method (waiting p m.begun (class_at p (method_at p n).class).starts))
  unfolding starts_with
  begins_with n e =
      main_starts (Some n) e
      ∙ ap (λ ms. starts_with (to_start (map w.class m.begun) ms)) (ap w.looks.starts (links.methods n).class ∙ (links.classes (method_at p n).class).starts)
      ∙ ap starts_with (sym (waiting_is none w p links m.begun (class_at p (method_at p n).class).starts))

  -- nothing is to begin
  gone_on : (new : Machine T) → new ≡ record m { phase = phase.Makes } → shown w new more ≡ starts_with []
  unfolding starts_with
  gone_on new is =
      ap (λ (x : Machine T). shown w x more) is
      ∙ ap (λ fs. record { frames = fs; areas = areas_of w m.areas; outside = record (outside_of w m more) { phase = state.Makes }; ending = ending_of w m.ending }) no_frames
      ∙ ap (λ q. record { frames = []; areas = areas_of w m.areas; outside = record (outside_of w m more) { phase = state.Makes }; ending = ending_of w q }) running

  pub root_without_main : (new : Machine T) → m.phase ≡ phase.Begins → p.main ≡ None → new ≡ record m { phase = phase.Makes } → shown w new more ≡ step (tags_of none join w) w.looks (shown w m more)
  root_without_main new e missing is = gone_on new is ∙ sym (main_starts None missing) ∙ root_is state.Begins (ap phase_of e)

  pub root_begun : (n : ℕ) (new : Machine T) → m.phase ≡ phase.Begins → p.main ≡ Some n → waiting p m.begun (class_at p (method_at p n).class).starts ≡ [] → new ≡ record m { phase = phase.Makes }
      → shown w new more ≡ step (tags_of none join w) w.looks (shown w m more)
  root_begun n new e main none_waits is =
      gone_on new is
      ∙ sym (begins_with n main ∙ ap (λ ns. starts_with (map w.method ns)) none_waits)
      ∙ root_is state.Begins (ap phase_of e)

  framed_list : (new : Machine T) → frames_of w new.framed new.top new.below ≡ map (frame_of w) (stacked new)
  framed_list new = listed w new.framed new.top new.below

  started : (ws : List ℕ) (b new : Machine T) → ws ≢ [] → b.begun ≡ with_classes p ws m.begun → Stacks m (record b { begun = m.begun }) (with_blanks p ws (stacked m)) → new ≡ record b { phase = phase.Makes }
      → shown w new more ≡ starts_with (map w.method ws)
  unfolding starts_with
  started [] b new some begun stands is = absurd (some refl)
  started (x ∷ xs) b new some begun stands is =
      let ws = x ∷ xs in
      let o = record (outside_of w m more) { phase = state.Makes } in
      let frames : frames_of w b.framed b.top b.below ≡ with_frames (map w.method ws) [] =
      framed_list b ∙ ap (map (frame_of w)) stands.frames ∙ frames_are none w p links ws (stacked m) ∙ ap (λ (fs : List (Frame T)). with_frames (map w.method ws) (map (frame_of w) fs)) none_stacked in
      let classes = ap (map w.class) begun ∙ classes_are none w p links ws m.begun in
      ap (λ (q : Machine T). shown w q more) is
      ∙ ap (λ (q : List (state.Frame T)). record { frames = q; areas = areas_of w b.areas; outside = record (outside_of w b more) { phase = state.Makes }; ending = ending_of w b.ending }) frames
      ∙ ap (λ (q : Machine T). record { frames = with_frames (map w.method ws) []; areas = areas_of w q.areas; outside = record (outside_of w q more) { begun = map w.class b.begun; phase = state.Makes }; ending = ending_of w q.ending }) stands.others
      ∙ ap (λ (q : List (List ℕ)). record { frames = with_frames (map w.method ws) []; areas = areas_of w m.areas; outside = record o { begun = q }; ending = ending_of w m.ending }) classes
      ∙ ap (λ e. record { frames = with_frames (map w.method ws) []; areas = areas_of w m.areas; outside = record o { begun = classes_of (map w.method ws) ++ o.begun }; ending = ending_of w e }) running

  pub root_begins : (n : ℕ) (b new : Machine T) → m.phase ≡ phase.Begins → p.main ≡ Some n → Begins p (class_at p (method_at p n).class).starts m true b → new ≡ record b { phase = phase.Makes }
      → shown w new more ≡ step (tags_of none join w) w.looks (shown w m more)
  root_begins n b new e main begins is =
      started (waiting p m.begun (class_at p (method_at p n).class).starts) b new begins.0 begins.1 begins.2 is
      ∙ sym (begins_with n main)
      ∙ root_is state.Begins (ap phase_of e)

  -- where classes begin, or none
  pub root_begins_any : (n : ℕ) (starts : List ℕ) (begins : Bool) (b new : Machine T) → m.phase ≡ phase.Begins → p.main ≡ Some n → starts ≡ (class_at p (method_at p n).class).starts → Begins p starts m begins b → new ≡ record b { phase = phase.Makes }
      → shown w new more ≡ step (tags_of none join w) w.looks (shown w m more)
  root_begins_any n starts true b new e main are begins is = root_begins n b new e main (subst (λ (ns : List ℕ). Begins p ns m true b) are begins) is
  root_begins_any n starts false b new e main are begins is =
      root_begun n new e main (ap (waiting p m.begun) (sym are) ∙ begins.1) (is ∙ ap (λ (q : Machine T). record q { phase = phase.Makes }) begins.0)

  -- an array of no texts is made
  pub root_makes : (x : Item T) (new : Machine T) → m.phase ≡ phase.Makes → x ≡ record { ty = p.arguments; own = none; cells = [] } → new ≡ record m { areas = record m.areas { heap = m.areas.heap ++ x ∷ [] }; phase = phase.Calls }
      → shown w new more ≡ step (tags_of none join w) w.looks (shown w m more)
  unfolding root_turn
  root_makes x new e item is =
      let made = record m.areas { heap = m.areas.heap ++ x ∷ [] } in
      let o = record (outside_of w m more) { phase = state.Calls } in
      let array : item_of w x ≡ empty_array (tags_of none join w) = ap (item_of w) item ∙ ap (λ t. record { ty = t; own = none; cells = [] }) (sym links.arguments) in
      ap (λ (q : Machine T). shown w q more) is
      ∙ ap (λ fs. record { frames = fs; areas = areas_of w made; outside = o; ending = ending_of w m.ending }) no_frames
      ∙ ap (λ q. record { frames = []; areas = areas_of w made; outside = o; ending = ending_of w q }) running
      ∙ ap (rooted o) (with_one_more none join w m.areas (m.areas.heap ++ x ∷ []) x refl ∙ ap (with_item (areas_of w m.areas)) array)
      ∙ root_is state.Makes (ap phase_of e)

  pub root_no_main : (new : Machine T) → m.phase ≡ phase.Calls → p.main ≡ None → new ≡ record m { framed = false; ending = ending.Stuck } → shown w new more ≡ step (tags_of none join w) w.looks (shown w m more)
  unfolding root_turn
  root_no_main new e missing is =
      ap (λ (q : Machine T). shown w q more) is
      ∙ sym (ap (λ q. on_some (outside_of w m more) (areas_of w m.areas) q (λ main. calling_main (tags_of none join w) w.looks main (Ref (newest (areas_of w m.areas).heap 0) ∷ []) (record (outside_of w m more) { phase = state.Waits }) (areas_of w m.areas))) (links.main ∙ ap (option_map w.method) missing))
      ∙ root_is state.Calls (ap phase_of e)

  pub root_waits : (new : Machine T) → m.phase ≡ phase.Waits → new ≡ record m { framed = false; ending = ending.Stuck } → shown w new more ≡ step (tags_of none join w) w.looks (shown w m more)
  unfolding root_turn
  root_waits new e is = ap (λ (q : Machine T). shown w q more) is ∙ root_is state.Waits (ap phase_of e)

  pub root_calls : (n place : ℕ) (locals : List (Word T)) (new : Machine T) → m.phase ≡ phase.Calls → p.main ≡ Some n → newest (areas_of w m.areas).heap 0 ≡ place
      → locals ≡ Ref place ∷ replicate ((method_at p n).locals - (method_at p n).params) Empty
      → new ≡ record m { framed = true; top = record { method = n; next = 0; locals = locals; stack = [] }; below = []; phase = phase.Waits }
      → shown w new more ≡ step (tags_of none join w) w.looks (shown w m more)
  unfolding root_turn
  root_calls n place locals new e main here words is =
      let o = record (outside_of w m more) { phase = state.Waits } in
      let ar = areas_of w m.areas in
      let d = w.method n in
      let args : List (Word T) = Ref (newest ar.heap 0) ∷ [] in
      let left : (method_at p n).locals - (method_at p n).params ≡ d.locals - d.params = rw ((links.methods n).locals, (links.methods n).params) refl in
      ap (λ (q : Machine T). shown w q more) is
      ∙ ap (λ q. record { frames = record { method = d; next = 0; locals = locals; stack = [] } ∷ []; areas = ar; outside = o; ending = ending_of w q }) running
      ∙ ap (λ (ls : List (Word T)). live o ar d 0 ls [] []) (words ∙ ap (λ k. Ref place ∷ replicate k Empty) left ∙ ap (λ k. Ref k ∷ replicate (d.locals - d.params) Empty) (sym here))
      ∙ sym (ap (λ q. on_some (outside_of w m more) ar q (λ x. calling_main (tags_of none join w) w.looks x args o ar)) (links.main ∙ ap (option_map w.method) main)
      ∙ ap (λ rs. entered (said o rs) ar d args []) (links.quiet d _))
      ∙ root_is state.Calls (ap phase_of e)
