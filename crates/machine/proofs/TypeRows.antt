-- The rows of type tests, by what the stack and the heap hold.
use Rattle.std.proofs.Common.{◌≡◌, ℕ, ◌+◌, List, [], ◌∷◌, Option, Some, None, drop, map, refl, ap, sym, ◌∙◌}
use Rattle.std.specs.Prelude.{slice_get, true, false, Bool}
use Rattle.run_state.specs.Words.{Word, Empty, Num, Long, Half, Null, Ref}
use Rattle.run_state.specs.State.{Areas as AreasOf, Outside, State}
use Rattle.run_state.specs.Operands.{on_ref}
use Rattle.run_state.specs.References.{refers_to}
use Rattle.run_state.specs.Objects.{truth}
use Rattle.machine_heap.specs.declared.item.Item.{Item}
use Rattle.machine_frames.specs.declared.frame.Frame.{Frame}
use Rattle.machine_frames.specs.declared.flow.Fault.TheVariants as fault
use Rattle.machine_frames.specs.declared.flow.Flow.TheVariants as flow
use Rattle.linked_code.specs.declared.op.Op.TheVariants as op
use Rattle.linked_code.specs.declared.program.Program.{Program}
use Rattle.linked_code.specs.World.{World}
use Rattle.linked_code.specs.Links.{Links}
use Rattle.machine.specs.declared.state.Areas.{Areas}
use Rattle.machine.specs.declared.operands.Held.{Held}
use Rattle.machine.specs.declared.operands.Held.TheVariants as holds
use Rattle.machine.specs.Held.{held_by}
use Rattle.machine.specs.Referred.{refers_by}
use Rattle.machine.specs.Shown.{item_of, areas_of}
use Rattle.machine.specs.Acted.{acted, led, Acts}
use Rattle.machine.proofs.KindTops.{ref_off}
use Rattle.machine.proofs.Choices.{either_yes, either_no}
use Rattle.std.proofs.lemmas.Option.{slice_get-map}
use Rattle.run_state.specs.References.{given}
use Rattle.linked_code.specs.Kept.{is_among}
use Rattle.linked_code.specs.Numbered.{type_at}
use Rattle.std.specs.Prelude.{option_map}

module _ {T : Type 0} (none : T) (w : World T) (p : Program T) (links : Links none w p) (heap : List (Item T)) (ty : ℕ) (null : Bool) where
  found_is : (o : Option (Item T)) → given (option_map (item_of w) o) null (λ x. w.looks.fits x.ty (w.ty ty)) ≡ given o null (λ x. is_among (type_at p x.ty).fits ty)
  found_is None = refl
  found_is (Some x) = (links.types x.ty).fits ty

  -- the question of the definitions is that of the code
  pub refers_is : (v : Word T) → refers_to w.looks null (map (item_of w) heap) (w.ty ty) v ≡ refers_by p heap ty null (held_by (Some v))
  refers_is Empty = refl
  refers_is (Num v t) = refl
  refers_is (Long v t) = refl
  refers_is Half = refl
  refers_is Null = refl
  refers_is (Ref a) = ap (λ o. given o null (λ x. w.looks.fits x.ty (w.ty ty))) (slice_get-map (item_of w) heap a) ∙ found_is (slice_get heap a)

-- a stack with a reference on top
pub record HasTop {T : Type 0} (st : List (Word T)) (k : Held) : Type 0 where
  pub word : Word T
  pub is : st ≡ word ∷ drop 1 st
  pub holds : held_by (Some word) ≡ k
  pub by : (o : Outside) (ar : AreasOf T) (go : Word T → List (Word T) → State T) → on_ref o ar st go ≡ go word (drop 1 st)

pub top_of : {T : Type 0} (st : List (Word T)) (k : Held) → held_by (slice_get st 0) ≡ k → (k ≡ holds.Nothing → ⊥) → HasTop st k
top_of [] k e not = absurd (not (sym e))
top_of (Empty ∷ st) k e not = absurd (not (sym e))
top_of (Num v t ∷ st) k e not = absurd (not (sym e))
top_of (Long v t ∷ st) k e not = absurd (not (sym e))
top_of (Half ∷ st) k e not = absurd (not (sym e))
top_of (Null ∷ st) k e not = record { word = Null; is = refl; holds = e; by = λ o ar go. refl }
top_of (Ref a ∷ st) k e not = record { word = Ref a; is = refl; holds = e; by = λ o ar go. refl }

module _ {T : Type 0} (none : T) (join : T → T → T) (p : Program T) (f : Frame T) (a : Areas T) (ty : ℕ) where
  pub cast_of_nothing : held_by (slice_get f.stack 0) ≡ holds.Nothing → Acts none join p (op.CheckCast ty) f a flow.Stuck f a
  cast_of_nothing e = record {
    by = λ w i o below links h. ap (λ x. acted none join w o below x f a) h ∙ ref_off o (areas_of w a) f.stack _ e;
  }

  pub question_of_nothing : held_by (slice_get f.stack 0) ≡ holds.Nothing → Acts none join p (op.InstanceOf ty) f a flow.Stuck f a
  question_of_nothing e = record {
    by = λ w i o below links h. ap (λ x. acted none join w o below x f a) h ∙ ref_off o (areas_of w a) f.stack _ e;
  }

  module _ (k : Held) (e : held_by (slice_get f.stack 0) ≡ k) (not : k ≡ holds.Nothing → ⊥) where
    pub cast_refused : refers_by p a.heap ty true k ≡ false → Acts none join p (op.CheckCast ty) f a (flow.Throws fault.ClassCast) f a
    cast_refused no_fit = record {
      by = λ w i o below links h.
          let top = top_of f.stack k e not in
          ap (λ x. acted none join w o below x f a) h
          ∙ top.by o (areas_of w a) _
          ∙ either_no _ _ _ (refers_is none w p links a.heap ty true top.word ∙ ap (refers_by p a.heap ty true) top.holds ∙ no_fit);
    }

    pub cast : (g : Frame T) → refers_by p a.heap ty true k ≡ true → g ≡ record f { next = f.next + 1 } → Acts none join p (op.CheckCast ty) f a flow.Next g a
    cast g fit is = record {
      by = λ w i o below links h.
          let top = top_of f.stack k e not in
          ap (λ x. acted none join w o below x f a) h
          ∙ top.by o (areas_of w a) _
          ∙ either_yes _ _ _ (refers_is none w p links a.heap ty true top.word ∙ ap (refers_by p a.heap ty true) top.holds ∙ fit)
          ∙ ap (λ (st : List (Word T)). led none join w o below flow.Next (record f { next = f.next + 1; stack = st }) a) (sym top.is)
          ∙ ap (λ (x : Frame T). led none join w o below flow.Next x a) (sym is);
    }

    pub question : (g : Frame T) → g ≡ record f { next = f.next + 1; stack = Num (truth (refers_by p a.heap ty false k)) none ∷ drop 1 f.stack } → Acts none join p (op.InstanceOf ty) f a flow.Next g a
    question g is = record {
      by = λ w i o below links h.
          let top = top_of f.stack k e not in
          ap (λ x. acted none join w o below x f a) h
          ∙ top.by o (areas_of w a) _
          ∙ ap (λ b. led none join w o below flow.Next (record f { next = f.next + 1; stack = Num (truth b) none ∷ drop 1 f.stack }) a) (refers_is none w p links a.heap ty false top.word ∙ ap (refers_by p a.heap ty false) top.holds)
          ∙ ap (λ (x : Frame T). led none join w o below flow.Next x a) (sym is);
    }
