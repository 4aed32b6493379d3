-- How what an instruction does to the top frame and to the areas shows in the whole state.
use Rattle.std.proofs.Common.{◌≡◌, ℕ, List, [], ◌∷◌, ◌++◌, map, length, sym, ap, ◌∙◌}
use Rattle.std.specs.Prelude.{true, Result, Ok, Err, OnOk, OnErr}
use Rattle.std.proofs.lemmas.List.{map-append, length-map}
use Rattle.class_model.specs.declared.insn.Insn.{Insn}
use Rattle.run_state.specs.State.{live}
use Rattle.run_state.specs.Texts.{class_type}
use Rattle.run_state.specs.Unwinding.{thrown, with_item, fresh_object}
use Rattle.machine_heap.specs.declared.item.Item.{Item}
use Rattle.machine_frames.specs.declared.frame.Frame.{Frame}
use Rattle.machine_frames.specs.declared.flow.Fault.{Fault}
use Rattle.machine_frames.specs.declared.flow.Flow.{Flow}
use Rattle.machine_frames.specs.declared.flow.Flow.TheVariants as flow
use Rattle.linked_code.specs.declared.op.Op.{Op}
use Rattle.linked_code.specs.declared.program.LinkedClass.{LinkedClass}
use Rattle.linked_code.specs.declared.program.Program.{Program}
use Rattle.linked_code.specs.World.{World, tags_of}
use Rattle.linked_code.specs.Linked.{Linked}
use Rattle.linked_code.specs.Links.{IsClass, Links, class_of_fault}
use Rattle.machine.specs.declared.state.Areas.{Areas}
use Rattle.machine.specs.declared.state.Machine.{Machine}
use Rattle.machine.specs.declared.state.Ending.TheVariants as ending
use Rattle.machine.specs.Shown.{shown, frame_of, frames_of, item_of, areas_of, outside_of, ending_of}
use Rattle.machine.specs.Acted.{Acts}
use Rattle.machine.specs.Unwound.{thrown_at, led_at, fault_at, done_at}

pub on_ok : {A E : Type 0} (r : Result A E) {P Q : Type 0} → OnOk r P → (P → Q) → OnOk r Q
on_ok (Ok x) h f = f h
on_ok (Err e) h f = tt

pub on_err : {A E : Type 0} (r : Result A E) {P Q : Type 0} → OnErr r P → (P → Q) → OnErr r Q
on_err (Ok x) h f = tt
on_err (Err e) h f = f h

pub on_any : {A E : Type 0} (r : Result A E) {P : Type 0} → P → OnErr r P
on_any (Ok x) h = tt
on_any (Err e) h = h

module _ {T : Type 0} (none : T) (join : T → T → T) (w : World T) where
  -- a machine with a top frame shows a running state
  pub shown_live : (m : Machine T) (more : List ℕ) → m.framed ≡ true → m.ending ≡ ending.Running
      → shown w m more ≡ live (outside_of w m more) (areas_of w m.areas) (w.method m.top.method) m.top.next m.top.locals m.top.stack (map (frame_of w) m.below)
  shown_live m more framed running =
      ap (λ b. record { frames = frames_of w b m.top m.below; areas = areas_of w m.areas; outside = outside_of w m more; ending = ending_of w m.ending }) framed
      ∙ ap (λ e. record { frames = frames_of w true m.top m.below; areas = areas_of w m.areas; outside = outside_of w m more; ending = ending_of w e }) running

  pub next_led : (m : Machine T) (more : List ℕ) → m.framed ≡ true → m.ending ≡ ending.Running → shown w m more ≡ led_at none join w flow.Next m more
  next_led m more framed running = shown_live m more framed running

  -- what a linked instruction makes of a machine
  pub acts_done : (p : Program T) (op : Op) (m : Machine T) (more : List ℕ) (i : Insn) (flow : Flow) (g : Frame T) (b : Areas T) → Acts none join p op m.top m.areas flow g b → Links none w p → Linked w p i op
      → led_at none join w flow (record m { top = g; areas = b }) more ≡ done_at none join w i m more
  acts_done p op m more i flow g b acts links linked = sym (acts.by w i (outside_of w m more) (map (frame_of w) m.below) links linked)

  -- the fresh object of a class, as the code makes it
  pub fresh_is : (name : List ℕ) (k : LinkedClass T) (x : Item T) → IsClass none w name k → x ≡ record { ty = k.ty; own = none; cells = k.fresh }
      → item_of w x ≡ fresh_object (tags_of none join w) w.looks name
  fresh_is name k x h e =
      ap (item_of w) e
      ∙ ap (λ t. record { ty = t; own = none; cells = k.fresh }) (sym h.ty)
      ∙ ap (λ cells. record { ty = class_type name; own = none; cells = cells }) (sym h.fresh)

  pub with_one_more : (a : Areas T) (heap : List (Item T)) (x : Item T) → heap ≡ a.heap ++ x ∷ [] → areas_of w (record a { heap = heap }) ≡ with_item (areas_of w a) (item_of w x)
  with_one_more a heap x e =
      ap (λ h. areas_of w (record a { heap = h })) e
      ∙ ap (λ h. record (areas_of w a) { heap = h }) (map-append (item_of w) a.heap (x ∷ []))

  pub fault_thrown : (p : Program T) (m : Machine T) (more : List ℕ) (k : Fault) (c : LinkedClass T) (x : Item T) (heap : List (Item T)) (number place : ℕ) → Links none w p
      → number ≡ class_of_fault p.faults k → IsClass none w (w.class number) c → x ≡ record { ty = c.ty; own = none; cells = c.fresh } → heap ≡ m.areas.heap ++ x ∷ [] → place ≡ length m.areas.heap
      → thrown_at w (w.class number) place m.top.next (record m { areas = record m.areas { heap = heap } }) more ≡ fault_at none join w k m more
  fault_thrown p m more k c x heap number place links fault h item e at =
      let below = map (frame_of w) m.below in
      let method = w.method m.top.method in
      let o = outside_of w m more in
      let name = w.class number in
      ap (λ ar. thrown w.looks o ar name place below method m.top.next m.top.locals) (with_one_more m.areas heap x e ∙ ap (with_item (areas_of w m.areas)) (fresh_is name c x h item))
      ∙ ap (λ a. thrown w.looks o (with_item (areas_of w m.areas) (fresh_object (tags_of none join w) w.looks name)) name a below method m.top.next m.top.locals)
      (at ∙ sym (length-map m.areas.heap (item_of w)))
      ∙ ap (λ n. thrown w.looks o (with_item (areas_of w m.areas) (fresh_object (tags_of none join w) w.looks n)) n (length (map (item_of w) m.areas.heap)) below method m.top.next m.top.locals)
      (ap w.class fault ∙ sym (links.faults k))
