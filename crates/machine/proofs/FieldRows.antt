-- The rows of fields of objects, by what the stack and the heap hold.
use Rattle.std.proofs.Common.{◌≡◌, ℕ, ◌+◌, Some, None, drop, ap, sym, ◌∙◌}
use Rattle.std.specs.Prelude.{slice_get, true, false}
use Rattle.run_state.specs.Words.{Word, pushed}
use Rattle.machine_heap.specs.declared.item.Item.{Item}
use Rattle.machine_frames.specs.declared.frame.Frame.{Frame}
use Rattle.machine_frames.specs.declared.flow.Fault.TheVariants as fault
use Rattle.machine_frames.specs.declared.flow.Flow.TheVariants as flow
use Rattle.linked_code.specs.declared.op.Op.TheVariants as op
use Rattle.linked_code.specs.declared.program.Program.{Program}
use Rattle.linked_code.specs.Numbered.{type_at}
use Rattle.machine.specs.declared.state.Areas.{Areas}
use Rattle.machine.specs.declared.operands.Held.TheVariants as holds
use Rattle.machine.specs.Held.{held_by}
use Rattle.machine.specs.Shown.{areas_of}
use Rattle.machine.specs.Acted.{acted, led, Acts}
use Rattle.machine.proofs.OperandTops.{object_item, object_null, object_nothing}
use Rattle.machine.proofs.Choices.{either_yes, either_no, some_there, none_there, item_shown, no_item_shown}

module _ {T : Type 0} (none : T) (join : T → T → T) (p : Program T) (f : Frame T) (a : Areas T) (place : ℕ) where
  pub read_of_nothing : held_by (slice_get f.stack 0) ≡ holds.Nothing → Acts none join p (op.GetField place) f a flow.Stuck f a
  read_of_nothing e = record {
    by = λ w i o below links h.
        ap (λ x. acted none join w o below x f a) h.is ∙ object_nothing o (areas_of w a) f.stack _ _ e;
  }

  pub read_of_null : held_by (slice_get f.stack 0) ≡ holds.Null → Acts none join p (op.GetField place) f a (flow.Throws fault.NullPointer) f a
  read_of_null e = record {
    by = λ w i o below links h.
        ap (λ x. acted none join w o below x f a) h.is ∙ object_null o (areas_of w a) f.stack _ _ e;
  }

  module _ (at : ℕ) (e : held_by (slice_get f.stack 0) ≡ holds.Item at) where
    pub read_nowhere : slice_get a.heap at ≡ None → Acts none join p (op.GetField place) f a flow.Stuck f a
    read_nowhere there = record {
      by = λ w i o below links h.
          ap (λ x. acted none join w o below x f a) h.is
          ∙ object_item o (areas_of w a) f.stack _ _ at e
          ∙ none_there o (areas_of w a) _ _ (no_item_shown w a.heap at there);
    }

    pub read_of_array : (x : Item T) → slice_get a.heap at ≡ Some x → (type_at p x.ty).is_array ≡ true → Acts none join p (op.GetField place) f a (flow.Throws fault.IncompatibleChange) f a
    read_of_array x there array = record {
      by = λ w i o below links h.
          ap (λ x. acted none join w o below x f a) h.is
          ∙ object_item o (areas_of w a) f.stack _ _ at e
          ∙ some_there o (areas_of w a) _ _ _ (item_shown w a.heap at x there)
          ∙ either_yes _ _ _ ((links.types x.ty).array ∙ array);
    }

    pub read_of_none : (x : Item T) → slice_get a.heap at ≡ Some x → (type_at p x.ty).is_array ≡ false → slice_get x.cells place ≡ None → Acts none join p (op.GetField place) f a flow.Stuck f a
    read_of_none x there array missing = record {
      by = λ w i o below links h.
          ap (λ x. acted none join w o below x f a) h.is
          ∙ object_item o (areas_of w a) f.stack _ _ at e
          ∙ some_there o (areas_of w a) _ _ _ (item_shown w a.heap at x there)
          ∙ either_no _ _ _ ((links.types x.ty).array ∙ array)
          ∙ some_there o (areas_of w a) _ _ _ h.found
          ∙ none_there o (areas_of w a) _ _ missing;
    }

    pub read : (x : Item T) (c : Word T) (g : Frame T) → slice_get a.heap at ≡ Some x → (type_at p x.ty).is_array ≡ false → slice_get x.cells place ≡ Some c
        → g ≡ record f { next = f.next + 1; stack = pushed c (drop 1 f.stack) } → Acts none join p (op.GetField place) f a flow.Next g a
    read x c g there array cell is = record {
      by = λ w i o below links h.
          ap (λ x. acted none join w o below x f a) h.is
          ∙ object_item o (areas_of w a) f.stack _ _ at e
          ∙ some_there o (areas_of w a) _ _ _ (item_shown w a.heap at x there)
          ∙ either_no _ _ _ ((links.types x.ty).array ∙ array)
          ∙ some_there o (areas_of w a) _ _ _ h.found
          ∙ some_there o (areas_of w a) _ _ _ cell
          ∙ ap (λ (k : Frame T). led none join w o below flow.Next k a) (sym is);
    }
