-- The rows of arraylength and of the loads of elements, by what the stack and the heap hold.
use Rattle.std.proofs.Common.{◌≡◌, ℕ, ◌+◌, ℤ, pos, ◌∷◌, length, Some, None, drop, refl, ap, sym, ◌∙◌}
use Rattle.std.specs.Prelude.{slice_get}
use Rattle.class_model.specs.declared.insn.Elem.{Elem}
use Rattle.run_state.specs.Words.{Word, Num, pushed}
use Rattle.run_state.specs.Objects.{element}
use Rattle.machine_heap.specs.declared.item.Item.{Item}
use Rattle.machine_words.specs.Tops.{as_int}
use Rattle.machine_frames.specs.declared.frame.Frame.{Frame}
use Rattle.machine_frames.specs.declared.flow.Fault.TheVariants as fault
use Rattle.machine_frames.specs.declared.flow.Flow.TheVariants as flow
use Rattle.linked_code.specs.declared.op.Op.TheVariants as op
use Rattle.linked_code.specs.declared.program.Program.{Program}
use Rattle.machine.specs.declared.state.Areas.{Areas}
use Rattle.machine.specs.declared.operands.Held.{Held}
use Rattle.machine.specs.declared.operands.Held.TheVariants as holds
use Rattle.machine.specs.Held.{held_by}
use Rattle.machine.specs.Shown.{areas_of}
use Rattle.machine.specs.Acted.{acted, Acts}
use Rattle.machine.proofs.OperandTops.{object_item, object_null, object_nothing}
use Rattle.machine.proofs.KindTops.{int_on, int_off}
use Rattle.machine.proofs.Choices.{some_there, none_there, given_some, given_none, item_shown, no_item_shown}
use Rattle.machine.proofs.Places.{first_of_rest, dropped_once, led_next}

module _ {T : Type 0} (none : T) (join : T → T → T) (p : Program T) (f : Frame T) (a : Areas T) where
  pub measure_nothing : held_by (slice_get f.stack 0) ≡ holds.Nothing → Acts none join p op.ArrayLength f a flow.Stuck f a
  measure_nothing e = record {
    by = λ w i o below links h. ap (λ x. acted none join w o below x f a) h ∙ object_nothing o (areas_of w a) f.stack _ _ e;
  }

  pub measure_null : held_by (slice_get f.stack 0) ≡ holds.Null → Acts none join p op.ArrayLength f a (flow.Throws fault.NullPointer) f a
  measure_null e = record {
    by = λ w i o below links h. ap (λ x. acted none join w o below x f a) h ∙ object_null o (areas_of w a) f.stack _ _ e;
  }

  pub measure_nowhere : (at : ℕ) → held_by (slice_get f.stack 0) ≡ holds.Item at → slice_get a.heap at ≡ None → Acts none join p op.ArrayLength f a flow.Stuck f a
  measure_nowhere at e there = record {
    by = λ w i o below links h.
        ap (λ x. acted none join w o below x f a) h
        ∙ object_item o (areas_of w a) f.stack _ _ at e
        ∙ none_there o (areas_of w a) _ _ (no_item_shown w a.heap at there);
  }

  pub measure : (at : ℕ) (x : Item T) (v : ℤ) (g : Frame T) → held_by (slice_get f.stack 0) ≡ holds.Item at → slice_get a.heap at ≡ Some x → v ≡ pos (length x.cells)
      → g ≡ record f { next = f.next + 1; stack = Num v none ∷ drop 1 f.stack } → Acts none join p op.ArrayLength f a flow.Next g a
  measure at x v g e there long is = record {
    by = λ w i o below links h.
        ap (λ x. acted none join w o below x f a) h
        ∙ object_item o (areas_of w a) f.stack _ _ at e
        ∙ some_there o (areas_of w a) _ _ _ (item_shown w a.heap at x there)
        ∙ led_next none join w o below f g a (areas_of w a) (Num (pos (length x.cells)) none ∷ drop 1 f.stack) (Num v none ∷ drop 1 f.stack)
        (ap (λ n. Num n none ∷ drop 1 f.stack) (sym long)) refl is;
  }

  module _ (element_is : Elem) where
    pub load_no_index : as_int (slice_get f.stack 0) ≡ None → Acts none join p (op.ArrayLoad element_is) f a flow.Stuck f a
    load_no_index e = record {
      by = λ w i o below links h. ap (λ x. acted none join w o below x f a) h ∙ int_off o (areas_of w a) f.stack _ e;
    }

    module _ (v : ℤ) (t : T) (index : as_int (slice_get f.stack 0) ≡ Some (v, t)) where
      below_is : (x : Held) → held_by (slice_get f.stack 1) ≡ x → held_by (slice_get (drop 1 f.stack) 0) ≡ x
      below_is x e = ap held_by (first_of_rest f.stack 1) ∙ e

      pub load_from_nothing : held_by (slice_get f.stack 1) ≡ holds.Nothing → Acts none join p (op.ArrayLoad element_is) f a flow.Stuck f a
      load_from_nothing e = record {
        by = λ w i o below links h.
            ap (λ x. acted none join w o below x f a) h
            ∙ int_on o (areas_of w a) f.stack _ v t index
            ∙ object_nothing o (areas_of w a) (drop 1 f.stack) _ _ (below_is holds.Nothing e);
      }

      pub load_from_null : held_by (slice_get f.stack 1) ≡ holds.Null → Acts none join p (op.ArrayLoad element_is) f a (flow.Throws fault.NullPointer) f a
      load_from_null e = record {
        by = λ w i o below links h.
            ap (λ x. acted none join w o below x f a) h
            ∙ int_on o (areas_of w a) f.stack _ v t index
            ∙ object_null o (areas_of w a) (drop 1 f.stack) _ _ (below_is holds.Null e);
      }

      module _ (at : ℕ) (e : held_by (slice_get f.stack 1) ≡ holds.Item at) where
        pub load_nowhere : slice_get a.heap at ≡ None → Acts none join p (op.ArrayLoad element_is) f a flow.Stuck f a
        load_nowhere there = record {
          by = λ w i o below links h.
              ap (λ x. acted none join w o below x f a) h
              ∙ int_on o (areas_of w a) f.stack _ v t index
              ∙ object_item o (areas_of w a) (drop 1 f.stack) _ _ at (below_is (holds.Item at) e)
              ∙ none_there o (areas_of w a) _ _ (no_item_shown w a.heap at there);
        }

        pub load_past : (x : Item T) → slice_get a.heap at ≡ Some x → element x.cells v ≡ None → Acts none join p (op.ArrayLoad element_is) f a (flow.Throws fault.ArrayIndex) f a
        load_past x there past = record {
          by = λ w i o below links h.
              ap (λ x. acted none join w o below x f a) h
              ∙ int_on o (areas_of w a) f.stack _ v t index
              ∙ object_item o (areas_of w a) (drop 1 f.stack) _ _ at (below_is (holds.Item at) e)
              ∙ some_there o (areas_of w a) _ _ _ (item_shown w a.heap at x there)
              ∙ given_none _ _ _ past;
        }

        pub load : (x : Item T) (c : Word T) (g : Frame T) → slice_get a.heap at ≡ Some x → element x.cells v ≡ Some c
            → g ≡ record f { next = f.next + 1; stack = pushed c (drop 2 f.stack) } → Acts none join p (op.ArrayLoad element_is) f a flow.Next g a
        load x c g there cell is = record {
          by = λ w i o below links h.
              ap (λ x. acted none join w o below x f a) h
              ∙ int_on o (areas_of w a) f.stack _ v t index
              ∙ object_item o (areas_of w a) (drop 1 f.stack) _ _ at (below_is (holds.Item at) e)
              ∙ some_there o (areas_of w a) _ _ _ (item_shown w a.heap at x there)
              ∙ given_some _ _ _ c cell
              ∙ led_next none join w o below f g a (areas_of w a) (pushed c (drop 1 (drop 1 f.stack))) (pushed c (drop 2 f.stack))
              (ap (pushed c) (dropped_once f.stack 1 2 refl)) refl is;
        }
