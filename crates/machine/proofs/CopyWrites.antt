-- Elements that are copied, and faults that are thrown behind them.
use Rattle.std.proofs.Common.{◌≡◌, ℕ, zero, suc, ◌+◌, ◌<◌, ◌≤◌, List, [], ◌∷◌, ◌++◌, drop, take, length, map, reverse, Some, None, refl, ap, sym, ◌∙◌, arith}
use Rattle.std.specs.Prelude.{Bool, true, false, ◌==◌, slice_get, if◌then◌else◌}
use Rattle.std.proofs.lemmas.Bool.{eq-eqb, eqb-true}
use Rattle.std.proofs.lemmas.List.{length-take}
use Rattle.class_model.specs.declared.types.JType.{JType}
use Rattle.run_state.specs.Natives as native
use Rattle.run_state.specs.Words.{Word}
use Rattle.run_state.specs.State.{live}
use Rattle.run_state.specs.State as state
use Rattle.run_state.specs.Copying.{copied, fitting}
use Rattle.run_state.specs.Unwinding.{throws, array_store_exception}
use Rattle.machine_heap.specs.declared.item.Item.{Item}
use Rattle.machine_frames.specs.declared.flow.Fault.{Fault}
use Rattle.linked_code.specs.declared.program.Program.{Program}
use Rattle.linked_code.specs.World.{World, tags_of}
use Rattle.linked_code.specs.Links.{Links}
use Rattle.linked_code.specs.Numbered.{class_at, type_at}
use Rattle.machine.specs.declared.faults.Ready.{Ready}
use Rattle.machine.specs.declared.requests.Plan.{Plan}
use Rattle.machine.specs.declared.requests.Span.{Span}
use Rattle.machine.specs.declared.state.Ending.TheVariants as ending
use Rattle.machine.specs.declared.state.Machine.{Machine}
use Rattle.machine.specs.Called.{native_at}
use Rattle.machine.specs.Copied.{copied_at, fitting_by, laid_in, misfit_at, planned_by}
use Rattle.machine.specs.Held.{held_by}
use Rattle.machine.specs.Readied.{IsReady, fault_object}
use Rattle.machine.specs.Referred.{refers_by}
use Rattle.machine.specs.Shown.{shown, item_of, areas_of, outside_of, frame_of}
use Rattle.machine.specs.Unwound.{thrown_at, fault_at}
use Rattle.machine.proofs.Choices.{either_yes, either_no, some_there, none_there, item_shown, no_item_shown}
use Rattle.machine.proofs.CopyRows.{planned_at, planned_is}
use Rattle.machine.proofs.Laid.{laid_length, laid_in_front, laid_shown}
use Rattle.machine.proofs.NativeRows.{given_args}
use Rattle.machine.proofs.Steps.{shown_live, fault_thrown}
use Rattle.machine.proofs.TypeRows.{refers_is}

unequal : (a b : ℕ) (t : Bool) → (a == b) ≡ t → (a ≡ b → ⊥) → t ≡ false
unequal a b true e h = absurd (h (eqb-true a b e))
unequal a b false e h = refl

one_more : {A : Type 0} (b : Bool) (x : A) (xs : List A) (n : ℕ) → length xs ≤ n → length (if b then x ∷ xs else []) ≤ suc n
one_more true x xs n l = omega arith
one_more false x xs n l = omega arith

-- no more than were asked for
fitting_few : {T : Type 0} (p : Program T) (heap : List (Item T)) (ty n : ℕ) (ws : List (Word T)) → length ws ≤ n → length (fitting_by p heap ty ws) ≤ n
fitting_few p heap ty n [] l = omega arith
fitting_few p heap ty zero (v ∷ ws) l = absurd (omega arith)
fitting_few p heap ty (suc n) (v ∷ ws) l = one_more (refers_by p heap ty true (held_by (Some v))) v (fitting_by p heap ty ws) n (fitting_few p heap ty n ws (omega arith))

pub fit_few : {T : Type 0} (p : Program T) (heap : List (Item T)) (ty n : ℕ) (ws : List (Word T)) → length (fitting_by p heap ty (take n ws)) ≤ n
fit_few p heap ty n ws = fitting_few p heap ty n (take n ws) (omega (arith, length-take n ws))

module _ {T : Type 0} (none : T) (join : T → T → T) (w : World T) (p : Program T) (links : Links none w p) where
  -- a fault that is ready is thrown
  pub ready_thrown : (old new : Machine T) (more : List ℕ) (k : Fault) (r : Ready T) → IsReady none p k old new r → thrown_at w (w.class r.class) r.place new.top.next new more ≡ fault_at none join w k old more
  ready_thrown old new more k r h =
      let x = fault_object none p k in
      ap (λ (q : Machine T). thrown_at w (w.class r.class) r.place q.top.next q more) h.object
      ∙ fault_thrown none join w p old more k (class_at p r.class) x (old.areas.heap ++ x ∷ []) r.class r.place links h.class (links.classes r.class)
      (ap (λ n. record { ty = (class_at p n).ty; own = none; cells = (class_at p n).fresh }) (sym h.class)) refl h.place

  fits_of : (heap : List (Item T)) (ty : ℕ) (ws : List (Word T)) → fitting w.looks (map (item_of w) heap) (w.ty ty) ws ≡ fitting_by p heap ty ws
  fits_of heap ty [] = refl
  fits_of heap ty (v ∷ ws) =
      ap (λ (b : Bool). if b then v ∷ fitting w.looks (map (item_of w) heap) (w.ty ty) ws else []) (refers_is none w p links heap ty true v)
      ∙ ap (λ (q : List (Word T)). if refers_by p heap ty true (held_by (Some v)) then v ∷ q else []) (fits_of heap ty ws)

  module _ (m : Machine T) (more : List ℕ) (words : ℕ) where
    -- a plan that is made leads where the native does
    pub copy_planned : (n : ℕ) (there : words ≤ length m.top.stack) (plan : Plan) → plan ≡ planned_by p m.areas.heap (reverse (take words m.top.stack))
        → planned_at none join w p links m more words plan ≡ native_at none join w m more native.ArrayCopy n words
    copy_planned n there plan is =
        ap (planned_at none join w p links m more words) is
        ∙ sym (given_args none join w m more n words there native.ArrayCopy ∙ planned_is none join w p links m more words (reverse (take words m.top.stack)))

    module _ (s : Span) where
      pub no_source : (new : Machine T) → slice_get m.areas.heap s.source ≡ None → new ≡ record m { framed = false; ending = ending.Stuck } → shown w new more ≡ copied_at none join w s words m more
      no_source new e is = ap (λ (q : Machine T). shown w q more) is ∙ sym (none_there (outside_of w m more) (areas_of w m.areas) _ _ (no_item_shown w m.areas.heap s.source e))

      module _ (x : Item T) (ex : slice_get m.areas.heap s.source ≡ Some x) where
        pub no_target : (new : Machine T) → slice_get m.areas.heap s.target ≡ None → new ≡ record m { framed = false; ending = ending.Stuck } → shown w new more ≡ copied_at none join w s words m more
        no_target new e is =
            ap (λ (q : Machine T). shown w q more) is
            ∙ sym (some_there (outside_of w m more) (areas_of w m.areas) _ _ _ (item_shown w m.areas.heap s.source x ex)
            ∙ none_there (outside_of w m more) (areas_of w m.areas) _ _ (no_item_shown w m.areas.heap s.target e))

        module _ (y : Item T) (ey : slice_get m.areas.heap s.target ≡ Some y) (fit : List (Word T)) (fits : fit ≡ fitting_by p m.areas.heap (type_at p y.ty).element (take s.count (drop s.from x.cells))) where
          now_is : copied_at none join w s words m more
              ≡ copied (tags_of none join w) w.looks (outside_of w m more) (areas_of w m.areas) (w.method m.top.method) m.top.next m.top.locals (drop words m.top.stack) (map (frame_of w) m.below) s.count s.target (item_of w y) s.to fit
          now_is =
              let o = outside_of w m more in
              let ar = areas_of w m.areas in
              some_there o ar _ _ _ (item_shown w m.areas.heap s.source x ex)
              ∙ some_there o ar _ _ _ (item_shown w m.areas.heap s.target y ey)
              ∙ ap (λ (ws : List (Word T)). copied (tags_of none join w) w.looks o ar (w.method m.top.method) m.top.next m.top.locals (drop words m.top.stack) (map (frame_of w) m.below) s.count s.target (item_of w y) s.to ws)
              (ap (λ (ty : JType). fitting w.looks ar.heap ty (take s.count (drop s.from x.cells))) (links.types y.ty).element
              ∙ fits_of m.areas.heap (type_at p y.ty).element (take s.count (drop s.from x.cells)) ∙ sym fits)

          pub copied_all : (new : Machine T) → m.framed ≡ true → m.ending ≡ ending.Running → length fit ≡ s.count
              → new ≡ record m { top = record m.top { next = m.top.next + 1; stack = drop words m.top.stack }; areas = record m.areas { heap = laid_in m.areas.heap s.target s.to fit } }
              → shown w new more ≡ copied_at none join w s words m more
          copied_all new framed running all is =
              let o = outside_of w m more in
              let rest = drop words m.top.stack in
              let below = map (frame_of w) m.below in
              ap (λ (q : Machine T). shown w q more) is
              ∙ shown_live none join w (record m { top = record m.top { next = m.top.next + 1; stack = rest }; areas = record m.areas { heap = laid_in m.areas.heap s.target s.to fit } }) more framed running
              ∙ ap (λ (ar : state.Areas T). live o ar (w.method m.top.method) (m.top.next + 1) m.top.locals rest below) (laid_shown w m.areas s.target s.to y fit ey)
              ∙ sym (now_is ∙ either_yes _ _ _ (eq-eqb (length fit) s.count all))

          pub copied_some : (length fit ≡ s.count → ⊥) → misfit_at none join w s.target s.to fit m more ≡ copied_at none join w s words m more
          copied_some short =
              let o = outside_of w m more in
              ap (λ (ar : state.Areas T). throws (tags_of none join w) w.looks o ar array_store_exception (map (frame_of w) m.below) (w.method m.top.method) m.top.next m.top.locals) (laid_shown w m.areas s.target s.to y fit ey)
              ∙ sym (now_is ∙ either_no _ _ _ (unequal (length fit) s.count (length fit == s.count) refl short))

-- elements that are written leave a fault ready
pub laid_ready : {T : Type 0} (none : T) (p : Program T) (k : Fault) (m new : Machine T) (r : Ready T) (at i : ℕ) (ws : List (Word T)) → IsReady none p k m new r → at < length m.areas.heap
    → IsReady none p k (record m { areas = record m.areas { heap = laid_in m.areas.heap at i ws } }) (record new { areas = record new.areas { heap = laid_in new.areas.heap at i ws } }) r
laid_ready {T} none p k m new r at i ws h within = record {
  class = h.class;
  place = h.place ∙ sym (laid_length ws m.areas.heap at i);
  landing = h.landing;
  object =
      ap (λ (q : Machine T). record q { areas = record q.areas { heap = laid_in q.areas.heap at i ws } }) h.object
      ∙ ap (λ (heap : List (Item T)). record m { areas = record m.areas { heap = heap } }) (laid_in_front ws m.areas.heap (fault_object none p k ∷ []) at i within);
}
