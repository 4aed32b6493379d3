-- What calls come to, by what the stack and the heap hold.
use Rattle.std.proofs.Common.{◌≡◌, ℕ, List, [], Option, Some, None, refl, ap, sym, ◌∙◌, subst}
use Rattle.std.specs.Prelude.{Bool, true, false, ◌||◌, ◌==◌, slice_get, option_map, if◌then◌else◌}
use Rattle.std.specs.Cmp.Lexicographic.{same_text as told}
use Rattle.std.proofs.lemmas.Bool.{eq-eqb, eqb-true}
use Rattle.lists.proofs.Units.{pointwise_self}
use Rattle.class_model.specs.declared.types.MethodRef.{MethodRef}
use Rattle.class_model.specs.declared.insn.InvokeKind.{InvokeKind}
use Rattle.class_model.specs.declared.insn.InvokeKind.TheVariants as invoke
use Rattle.class_model.specs.declared.insn.Insn.{Insn}
use Rattle.class_model.specs.Descriptor.{words_of}
use Rattle.run_state.specs.Words.{Word}
use Rattle.run_state.specs.State.{Method, Outside, State}
use Rattle.run_state.specs.State as state
use Rattle.run_state.specs.Texts.{same_text}
use Rattle.run_state.specs.Operands.{either, stuck, on_some, with_args}
use Rattle.run_state.specs.References.{given}
use Rattle.run_state.specs.Calls.{called}
use Rattle.run_state.specs.Objects.{fails, calling, receiver_class, special_of}
use Rattle.run_state.specs.Unwinding.{null_pointer_exception}
use Rattle.machine_heap.specs.declared.item.Item.{Item}
use Rattle.machine_frames.specs.declared.frame.Frame.{Frame}
use Rattle.machine_frames.specs.declared.flow.Fault.TheVariants as fault
use Rattle.linked_code.specs.declared.op.Op.{Op}
use Rattle.linked_code.specs.declared.op.Op.TheVariants as op
use Rattle.linked_code.specs.declared.program.Call.{Call}
use Rattle.linked_code.specs.declared.program.Program.{Program}
use Rattle.linked_code.specs.World.{World, tags_of}
use Rattle.linked_code.specs.Kept.{is_among}
use Rattle.linked_code.specs.Linked.{Linked, IsCall, IsCallAt}
use Rattle.linked_code.specs.Links.{Links}
use Rattle.linked_code.specs.Numbered.{class_at, method_at, type_at}
use Rattle.machine.specs.declared.invoking.Aim.TheVariants as aim
use Rattle.machine.specs.declared.state.Areas.{Areas}
use Rattle.machine.specs.declared.operands.Held.TheVariants as holds
use Rattle.machine.specs.Called.{receiver_in}
use Rattle.machine.specs.Shown.{item_of, areas_of}
use Rattle.machine.specs.Acted.{acted}
use Rattle.machine.specs.Aimed.{called_from, aimed, Aims, selected_by, from_above, special_from, special_by, entering}
use Rattle.machine.proofs.Choices.{either_yes, either_no, some_there, none_there, item_shown, no_item_shown}
use Rattle.machine.proofs.Receivers.{receiving, received_nothing, received_null, received_item, args_unused, args_same, args_stuck}

call_of : {T : Type 0} (w : World T) (p : Program T) (kind : InvokeKind) (i : Insn) (q : Option Call) (c : Call) → q ≡ Some c → IsCallAt w p kind i q → IsCall w p kind i c
call_of w p kind i q c e h = subst (λ (x : Option Call). IsCallAt w p kind i x) e h

no_call : {T : Type 0} (w : World T) (p : Program T) (kind : InvokeKind) (i : Insn) (q : Option Call) → q ≡ None → IsCallAt w p kind i q → ⊥
no_call w p kind i q e h = subst (λ (x : Option Call). IsCallAt w p kind i x) e h

one_test : (a b : Bool) → (a ≡ true → b ≡ true) → (b ≡ true → a ≡ true) → a ≡ b
one_test true true f g = refl
one_test true false f g = sym (f refl)
one_test false true f g = g refl
one_test false false f g = refl

module _ {T : Type 0} (none : T) (join : T → T → T) (p : Program T) (f : Frame T) (a : Areas T) where
  pub aims_static : (n : ℕ) → Aims none join p (op.InvokeStatic n) f a (aim.Enters n (method_at p n).params)
  aims_static n = record {
    by = λ w i o below links h.
        ap (λ x. acted none join w o below x f a) h.is
        ∙ some_there o (areas_of w a) (w.looks.method h.ref) _ (w.method n) h.method
        ∙ ap (λ k. called_from none join w o below n k f a) (links.methods n).params;
  }

  pub aims_none_special : (n : ℕ) → slice_get p.calls n ≡ None → Aims none join p (op.InvokeSpecial n) f a aim.Nowhere
  aims_none_special n e = record { by = λ w i o below links h. absurd (no_call w p invoke.Special i (slice_get p.calls n) e h) }

  pub aims_none_virtual : (n : ℕ) → slice_get p.calls n ≡ None → Aims none join p (op.InvokeVirtual n) f a aim.Nowhere
  aims_none_virtual n e = record { by = λ w i o below links h. absurd (no_call w p invoke.Virtual i (slice_get p.calls n) e h) }

  pub aims_none_interface : (n : ℕ) → slice_get p.calls n ≡ None → Aims none join p (op.InvokeInterface n) f a aim.Nowhere
  aims_none_interface n e = record { by = λ w i o below links h. absurd (no_call w p invoke.Interface i (slice_get p.calls n) e h) }

  -- the null receiver's throw
  abbrev pub null_throws : (w : World T) (o : Outside) (below : List (state.Frame T)) → State T
  null_throws w o below = fails (tags_of none join w) w.looks o (areas_of w a) (w.method f.method) f.next f.locals below null_pointer_exception

  abbrev pub at_item : (w : World T) (o : Outside) (at : ℕ) → (state.Item T → State T) → State T
  at_item w o at go = on_some o (areas_of w a) (slice_get (areas_of w a).heap at) go

  -- a call on an object goes on with its arguments, the item and the rest of the stack
  pub record Receives (w : World T) (o : Outside) (below : List (state.Frame T)) (i : Insn) (words : ℕ) : Type 0 where
    pub go : List (Word T) → state.Item T → List (Word T) → State T
    pub is : acted none join w o below i f a ≡ receiving o (areas_of w a) words f.stack [] (null_throws w o below) (λ args b rest. at_item w o b (λ x. go args x rest))

  pub record OnObject (o : Op) (words : ℕ) : Type 0 where
    pub by : (w : World T) (i : Insn) (out : Outside) (below : List (state.Frame T)) → Links none w p → Linked w p i o → Receives w out below i words

  pub aims_nothing : (o : Op) (words : ℕ) → OnObject o words → receiver_in words f.stack ≡ holds.Nothing → Aims none join p o f a aim.Nowhere
  aims_nothing o words on e = record {
    by = λ w i out below links h.
        let r = on.by w i out below links h in
        r.is ∙ received_nothing out (areas_of w a) words f.stack (null_throws w out below) (λ args b rest. at_item w out b (λ x. r.go args x rest)) e;
  }

  pub aims_null : (o : Op) (words : ℕ) → OnObject o words → receiver_in words f.stack ≡ holds.Null → Aims none join p o f a (aim.Throws fault.NullPointer)
  aims_null o words on e = record {
    by = λ w i out below links h.
        let r = on.by w i out below links h in
        r.is ∙ received_null out (areas_of w a) words f.stack (null_throws w out below) (λ args b rest. at_item w out b (λ x. r.go args x rest)) e;
  }

  module _ (o : Op) (words at : ℕ) (on : OnObject o words) (lowest : receiver_in words f.stack ≡ holds.Item at) where
    -- the receiver is an item of the heap, or of none
    item_met : (w : World T) (i : Insn) (out : Outside) (below : List (state.Frame T)) (r : Receives w out below i words) → acted none join w out below i f a ≡ with_args out (areas_of w a) words f.stack [] (λ args rest. at_item w out at (λ x. r.go args x rest))
    item_met w i out below r = r.is ∙ received_item out (areas_of w a) words f.stack (null_throws w out below) (λ args b rest. at_item w out b (λ x. r.go args x rest)) at lowest

    pub aims_nowhere : slice_get a.heap at ≡ None → Aims none join p o f a aim.Nowhere
    aims_nowhere there = record {
      by = λ w i out below links h.
          let r = on.by w i out below links h in
          item_met w i out below r
          ∙ args_same out (areas_of w a) words f.stack [] _ (λ args rest. stuck out (areas_of w a)) (λ args rest. none_there out (areas_of w a) _ _ (no_item_shown w a.heap at there))
          ∙ args_stuck out (areas_of w a) words f.stack [];
    }

    module _ (x : Item T) (there : slice_get a.heap at ≡ Some x) where
      item_found : (w : World T) (i : Insn) (out : Outside) (below : List (state.Frame T)) (r : Receives w out below i words) → acted none join w out below i f a ≡ with_args out (areas_of w a) words f.stack [] (λ args rest. r.go args (item_of w x) rest)
      item_found w i out below r =
          item_met w i out below r
          ∙ args_same out (areas_of w a) words f.stack [] _ (λ args rest. r.go args (item_of w x) rest) (λ args rest. some_there out (areas_of w a) _ _ _ (item_shown w a.heap at x there))

      -- where it comes to a method that there may be
      pub aims_found : (found : Option ℕ)
          → ((w : World T) (i : Insn) (out : Outside) (below : List (state.Frame T)) (links : Links none w p) (h : Linked w p i o) (args rest : List (Word T))
          → (on.by w i out below links h).go args (item_of w x) rest
          ≡ on_some out (areas_of w a) (option_map w.method found) (λ callee. called (tags_of none join w) w.looks callee args out (areas_of w a) (w.method f.method) f.next f.locals rest below))
          → Aims none join p o f a (entering found words)
      aims_found None goes = record {
        by = λ w i out below links h.
            item_found w i out below (on.by w i out below links h)
            ∙ args_same out (areas_of w a) words f.stack [] _ (λ args rest. stuck out (areas_of w a)) (goes w i out below links h)
            ∙ args_stuck out (areas_of w a) words f.stack [];
      }
      aims_found (Some n) goes = record {
        by = λ w i out below links h.
            item_found w i out below (on.by w i out below links h)
            ∙ args_same out (areas_of w a) words f.stack [] _ _ (goes w i out below links h);
      }

      -- where it throws
      pub aims_changed : ((w : World T) (i : Insn) (out : Outside) (below : List (state.Frame T)) (links : Links none w p) (h : Linked w p i o) (args rest : List (Word T))
          → (on.by w i out below links h).go args (item_of w x) rest ≡ aimed none join w out below (aim.Throws fault.IncompatibleChange) f a)
          → Aims none join p o f a (aim.Throws fault.IncompatibleChange)
      aims_changed goes = record {
        by = λ w i out below links h.
            item_found w i out below (on.by w i out below links h)
            ∙ args_same out (areas_of w a) words f.stack [] _ (λ args rest. aimed none join w out below (aim.Throws fault.IncompatibleChange) f a) (goes w i out below links h)
            ∙ args_unused out (areas_of w a) words f.stack (aimed none join w out below (aim.Throws fault.IncompatibleChange) f a) at lowest;
      }

  module _ (n : ℕ) (c : Call) (there : slice_get p.calls n ≡ Some c) where
    from : (w : World T) (out : Outside) (below : List (state.Frame T)) → Option Method → List (Word T) → List (Word T) → State T
    from w out below found args rest = calling (tags_of none join w) w.looks out (areas_of w a) (w.method f.method) f.next f.locals below found args rest

    virtual_goes : (w : World T) (out : Outside) (below : List (state.Frame T)) → MethodRef → List (Word T) → state.Item T → List (Word T) → State T
    virtual_goes w out below ref args x rest = from w out below (w.looks.selected (receiver_class x.ty) ref) args rest

    interface_goes : (w : World T) (out : Outside) (below : List (state.Frame T)) → MethodRef → List (Word T) → state.Item T → List (Word T) → State T
    interface_goes w out below ref args x rest =
        either (w.looks.fits x.ty ref.class) (from w out below (w.looks.selected (receiver_class x.ty) ref) args rest) (aimed none join w out below (aim.Throws fault.IncompatibleChange) f a)

    special_goes : (w : World T) (out : Outside) (below : List (state.Frame T)) → MethodRef → List (Word T) → state.Item T → List (Word T) → State T
    special_goes w out below ref args x rest = on_some out (areas_of w a) (w.looks.method ref) (λ found. from w out below (special_of w.looks (w.method f.method) ref found) args rest)

    -- the words of a call are those of its descriptor
    so_many : (w : World T) (kind : InvokeKind) (i : Insn) (c' : IsCall w p kind i c) (out : Outside) (below : List (state.Frame T)) (go : List (Word T) → state.Item T → List (Word T) → State T)
        → receiving out (areas_of w a) (words_of c'.ref.desc true) f.stack [] (null_throws w out below) (λ args b rest. at_item w out b (λ x. go args x rest))
        ≡ receiving out (areas_of w a) c.words f.stack [] (null_throws w out below) (λ args b rest. at_item w out b (λ x. go args x rest))
    so_many w kind i c' out below go = ap (λ k. receiving out (areas_of w a) k f.stack [] (null_throws w out below) (λ args b rest. at_item w out b (λ x. go args x rest))) c'.words

    pub on_virtual : OnObject (op.InvokeVirtual n) c.words
    unfolding virtual_goes from
    on_virtual = record {
      by = λ w i out below links h.
          let c' = call_of w p invoke.Virtual i (slice_get p.calls n) c there h in
          record {
            go = virtual_goes w out below c'.ref;
            is = ap (λ x. acted none join w out below x f a) c'.is ∙ so_many w invoke.Virtual i c' out below (virtual_goes w out below c'.ref);
          };
    }

    pub on_interface : OnObject (op.InvokeInterface n) c.words
    unfolding interface_goes from
    on_interface = record {
      by = λ w i out below links h.
          let c' = call_of w p invoke.Interface i (slice_get p.calls n) c there h in
          record {
            go = interface_goes w out below c'.ref;
            is = ap (λ x. acted none join w out below x f a) c'.is ∙ so_many w invoke.Interface i c' out below (interface_goes w out below c'.ref);
          };
    }

    pub on_special : OnObject (op.InvokeSpecial n) c.words
    unfolding special_goes from
    on_special = record {
      by = λ w i out below links h.
          let c' = call_of w p invoke.Special i (slice_get p.calls n) c there h in
          record {
            go = special_goes w out below c'.ref;
            is = ap (λ x. acted none join w out below x f a) c'.is ∙ so_many w invoke.Special i c' out below (special_goes w out below c'.ref);
          };
    }

    select_is : (w : World T) (links : Links none w p) (kind : InvokeKind) (i : Insn) (c' : IsCall w p kind i c) (x : Item T)
        → w.looks.selected (receiver_class (w.ty x.ty)) c'.ref ≡ option_map w.method (selected_by p (type_at p x.ty).receiver c)
    select_is w links kind i c' x = ap (λ k. w.looks.selected k c'.ref) (links.types x.ty).receiver ∙ c'.selected (type_at p x.ty).receiver

    -- the class of the frame's method is that of another exactly where the numbers agree
    same_owner : (w : World T) (links : Links none w p) (found : ℕ) → same_text (w.method found).class (w.method f.method).class ≡ ((method_at p found).class == (method_at p f.method).class)
    same_owner w links found =
        ap (λ q. same_text q (w.method f.method).class) (links.methods found).class
        ∙ ap (same_text (w.class (method_at p found).class)) (links.methods f.method).class
        ∙ one_test (same_text (w.class (method_at p found).class) (w.class (method_at p f.method).class)) ((method_at p found).class == (method_at p f.method).class)
        (λ t. eq-eqb (method_at p found).class (method_at p f.method).class (links.owners found f.method (told (w.class (method_at p found).class) (w.class (method_at p f.method).class) (sym t))))
        (λ t. subst (λ (n : ℕ). same_text (w.class (method_at p found).class) (w.class n) ≡ true) (eqb-true (method_at p found).class (method_at p f.method).class t) (pointwise_self (w.class (method_at p found).class)))

    above_is : (w : World T) (kind : InvokeKind) (i : Insn) (c' : IsCall w p kind i c) (above : Option ℕ) → given (option_map w.class above) None (λ k. w.looks.selected k c'.ref) ≡ option_map w.method (from_above p above c)
    above_is w kind i c' None = refl
    above_is w kind i c' (Some k) = c'.selected k

    if_some : (w : World T) (b : Bool) (found : ℕ) (x : Option ℕ) → (if b then Some (w.method found) else option_map w.method x) ≡ option_map w.method (if b then Some found else x)
    if_some w true found x = refl
    if_some w false found x = refl

    special_is : (w : World T) (links : Links none w p) (kind : InvokeKind) (i : Insn) (c' : IsCall w p kind i c) (found : ℕ)
        → special_of w.looks (w.method f.method) c'.ref (w.method found) ≡ option_map w.method (special_from p (method_at p f.method).class c found)
    special_is w links kind i c' found =
        let k = (method_at p f.method).class in
        ap (λ (b : Bool). if b || same_text (w.method found).class (w.method f.method).class then Some (w.method found) else given (w.looks.above (w.method f.method).class) None (λ q. w.looks.selected q c'.ref)) c'.constructor
        ∙ ap (λ (b : Bool). if c.is_constructor || b then Some (w.method found) else given (w.looks.above (w.method f.method).class) None (λ q. w.looks.selected q c'.ref)) (same_owner w links found)
        ∙ ap (λ (o : Option Method). if c.is_constructor || (method_at p found).class == k then Some (w.method found) else o)
        (ap (λ q. given (w.looks.above q) None (λ q. w.looks.selected q c'.ref)) (links.methods f.method).class
        ∙ ap (λ o. given o None (λ q. w.looks.selected q c'.ref)) (links.classes k).above
        ∙ above_is w kind i c' (class_at p k).above)
        ∙ if_some w (c.is_constructor || (method_at p found).class == k) found (from_above p (class_at p k).above c)

    resolved_goes : (w : World T) (links : Links none w p) (out : Outside) (below : List (state.Frame T)) (kind : InvokeKind) (i : Insn) (c' : IsCall w p kind i c) (resolved : Option ℕ) (args rest : List (Word T))
        → on_some out (areas_of w a) (option_map w.method resolved) (λ found. from w out below (special_of w.looks (w.method f.method) c'.ref found) args rest)
        ≡ from w out below (option_map w.method (special_by p (method_at p f.method).class c resolved)) args rest
    unfolding from
    resolved_goes w links out below kind i c' None args rest = refl
    resolved_goes w links out below kind i c' (Some found) args rest = ap (λ o. from w out below o args rest) (special_is w links kind i c' found)

    module _ (at : ℕ) (lowest : receiver_in c.words f.stack ≡ holds.Item at) (x : Item T) (here : slice_get a.heap at ≡ Some x) where
      pub aims_virtual : Aims none join p (op.InvokeVirtual n) f a (entering (selected_by p (type_at p x.ty).receiver c) c.words)
      unfolding virtual_goes from on_virtual
      aims_virtual = aims_found (op.InvokeVirtual n) c.words at on_virtual lowest x here (selected_by p (type_at p x.ty).receiver c) (λ w i out below links h args rest.
          let c' = call_of w p invoke.Virtual i (slice_get p.calls n) c there h in
          ap (λ o. from w out below o args rest) (select_is w links invoke.Virtual i c' x))

      pub aims_special : Aims none join p (op.InvokeSpecial n) f a (entering (special_by p (method_at p f.method).class c c.resolved) c.words)
      unfolding special_goes from on_special
      aims_special = aims_found (op.InvokeSpecial n) c.words at on_special lowest x here (special_by p (method_at p f.method).class c c.resolved) (λ w i out below links h args rest.
          let c' = call_of w p invoke.Special i (slice_get p.calls n) c there h in
          ap (λ o. on_some out (areas_of w a) o (λ found. from w out below (special_of w.looks (w.method f.method) c'.ref found) args rest)) c'.resolved
          ∙ resolved_goes w links out below invoke.Special i c' c.resolved args rest)

      fits_is : (w : World T) (links : Links none w p) (kind : InvokeKind) (i : Insn) (c' : IsCall w p kind i c) → w.looks.fits (w.ty x.ty) c'.ref.class ≡ is_among (type_at p x.ty).fits c.ty
      fits_is w links kind i c' = ap (w.looks.fits (w.ty x.ty)) c'.ty ∙ (links.types x.ty).fits c.ty

      pub aims_interface : is_among (type_at p x.ty).fits c.ty ≡ true → Aims none join p (op.InvokeInterface n) f a (entering (selected_by p (type_at p x.ty).receiver c) c.words)
      unfolding interface_goes from on_interface
      aims_interface fit = aims_found (op.InvokeInterface n) c.words at on_interface lowest x here (selected_by p (type_at p x.ty).receiver c) (λ w i out below links h args rest.
          let c' = call_of w p invoke.Interface i (slice_get p.calls n) c there h in
          either_yes _ _ _ (fits_is w links invoke.Interface i c' ∙ fit)
          ∙ ap (λ o. from w out below o args rest) (select_is w links invoke.Interface i c' x))

      pub aims_no_interface : is_among (type_at p x.ty).fits c.ty ≡ false → Aims none join p (op.InvokeInterface n) f a (aim.Throws fault.IncompatibleChange)
      unfolding interface_goes from on_interface
      aims_no_interface no_fit = aims_changed (op.InvokeInterface n) c.words at on_interface lowest x here (λ w i out below links h args rest.
          let c' = call_of w p invoke.Interface i (slice_get p.calls n) c there h in
          either_no _ _ _ (fits_is w links invoke.Interface i c' ∙ no_fit))
