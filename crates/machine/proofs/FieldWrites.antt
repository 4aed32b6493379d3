-- The rows of putfield, by what the stack and the heap hold.
use Rattle.std.proofs.Common.{◌≡◌, ℕ, ◌+◌, Some, None, drop, ap, sym, ◌∙◌}
use Rattle.std.specs.Prelude.{slice_get, slice_set, true, false}
use Rattle.class_model.specs.declared.insn.Kind.{Kind}
use Rattle.run_state.specs.Words.{Word}
use Rattle.run_state.specs.State.{live}
use Rattle.run_state.specs.Calls.{narrowed}
use Rattle.run_state.specs.Objects.{kind_of, with_cell as cell_in}
use Rattle.machine_heap.specs.declared.item.Item.{Item}
use Rattle.machine_heap.specs.Blocks.{with_cell}
use Rattle.machine_frames.specs.declared.frame.Frame.{Frame}
use Rattle.machine_frames.specs.declared.flow.Fault.TheVariants as fault
use Rattle.machine_frames.specs.declared.flow.Flow.TheVariants as flow
use Rattle.machine_frames.specs.Acts.{HasKind, LacksKind}
use Rattle.linked_code.specs.declared.op.Op.TheVariants as op
use Rattle.linked_code.specs.declared.program.Narrowing.{Narrowing}
use Rattle.linked_code.specs.declared.program.Program.{Program}
use Rattle.linked_code.specs.Kept.{kept_by}
use Rattle.linked_code.specs.Numbered.{type_at}
use Rattle.machine.specs.declared.state.Areas.{Areas}
use Rattle.machine.specs.declared.operands.Held.{Held}
use Rattle.machine.specs.declared.operands.Held.TheVariants as holds
use Rattle.machine.specs.Held.{held_by, kind_words}
use Rattle.machine.specs.Shown.{item_of, areas_of}
use Rattle.machine.specs.Acted.{acted, Acts}
use Rattle.machine.proofs.OperandTops.{object_item, object_null, object_nothing}
use Rattle.machine.proofs.Choices.{either_yes, either_no, some_there, none_there, item_shown, no_item_shown}
use Rattle.machine.proofs.Places.{first_of_rest, dropped_once, cell_written, led_next}
use Rattle.machine.proofs.KindTops.{has_of, lacks_of}
use Rattle.machine.proofs.Returning.{narrowed_alike}

module _ {T : Type 0} (none : T) (join : T → T → T) (p : Program T) (f : Frame T) (a : Areas T) (place : ℕ) (k : Kind) (keeps : Narrowing) where
  pub put_none : LacksKind k f.stack → Acts none join p (op.PutField place k keeps) f a flow.Stuck f a
  put_none e = record {
    by = λ w i o below links h.
        ap (λ x. acted none join w o below x f a) h.is
        ∙ lacks_of (kind_of h.field.ty) k f.stack h.kind_is e o (areas_of w a) _;
  }

  module _ (v : Word T) (words : ℕ) (has : HasKind k f.stack v (drop (kind_words k) f.stack)) (so_many : words ≡ kind_words k) where
    below_is : (x : Held) → held_by (slice_get f.stack words) ≡ x → held_by (slice_get (drop (kind_words k) f.stack) 0) ≡ x
    below_is x e = ap held_by (first_of_rest f.stack (kind_words k)) ∙ ap (λ n. held_by (slice_get f.stack n)) (sym so_many) ∙ e

    pub put_into_nothing : held_by (slice_get f.stack words) ≡ holds.Nothing → Acts none join p (op.PutField place k keeps) f a flow.Stuck f a
    put_into_nothing e = record {
      by = λ w i o below links h.
          ap (λ x. acted none join w o below x f a) h.is
          ∙ has_of (kind_of h.field.ty) k f.stack v (drop (kind_words k) f.stack) h.kind_is has o (areas_of w a) _
          ∙ object_nothing o (areas_of w a) (drop (kind_words k) f.stack) _ _ (below_is holds.Nothing e);
    }

    pub put_into_null : held_by (slice_get f.stack words) ≡ holds.Null → Acts none join p (op.PutField place k keeps) f a (flow.Throws fault.NullPointer) f a
    put_into_null e = record {
      by = λ w i o below links h.
          ap (λ x. acted none join w o below x f a) h.is
          ∙ has_of (kind_of h.field.ty) k f.stack v (drop (kind_words k) f.stack) h.kind_is has o (areas_of w a) _
          ∙ object_null o (areas_of w a) (drop (kind_words k) f.stack) _ _ (below_is holds.Null e);
    }

    module _ (at : ℕ) (e : held_by (slice_get f.stack words) ≡ holds.Item at) where
      pub put_nowhere : slice_get a.heap at ≡ None → Acts none join p (op.PutField place k keeps) f a flow.Stuck f a
      put_nowhere there = record {
        by = λ w i o below links h.
            ap (λ x. acted none join w o below x f a) h.is
            ∙ has_of (kind_of h.field.ty) k f.stack v (drop (kind_words k) f.stack) h.kind_is has o (areas_of w a) _
            ∙ object_item o (areas_of w a) (drop (kind_words k) f.stack) _ _ at (below_is (holds.Item at) e)
            ∙ none_there o (areas_of w a) _ _ (no_item_shown w a.heap at there);
      }

      pub put_into_array : (x : Item T) → slice_get a.heap at ≡ Some x → (type_at p x.ty).is_array ≡ true → Acts none join p (op.PutField place k keeps) f a (flow.Throws fault.IncompatibleChange) f a
      put_into_array x there array = record {
        by = λ w i o below links h.
            ap (λ x. acted none join w o below x f a) h.is
            ∙ has_of (kind_of h.field.ty) k f.stack v (drop (kind_words k) f.stack) h.kind_is has o (areas_of w a) _
            ∙ object_item o (areas_of w a) (drop (kind_words k) f.stack) _ _ at (below_is (holds.Item at) e)
            ∙ some_there o (areas_of w a) _ _ _ (item_shown w a.heap at x there)
            ∙ either_yes _ _ _ ((links.types x.ty).array ∙ array);
      }

      pub put : (x : Item T) (g : Frame T) (b : Areas T) → slice_get a.heap at ≡ Some x → (type_at p x.ty).is_array ≡ false
          → g ≡ record f { next = f.next + 1; stack = drop (words + 1) f.stack }
          → b ≡ record a { heap = slice_set a.heap at (with_cell x place (narrowed (kept_by keeps) v)) }
          → Acts none join p (op.PutField place k keeps) f a flow.Next g b
      put x g b there array is now = record {
        by = λ w i o below links h.
            let kept = narrowed (kept_by keeps) v in
            let rest = drop 1 (drop (kind_words k) f.stack) in
            ap (λ x. acted none join w o below x f a) h.is
            ∙ has_of (kind_of h.field.ty) k f.stack v (drop (kind_words k) f.stack) h.kind_is has o (areas_of w a) _
            ∙ object_item o (areas_of w a) (drop (kind_words k) f.stack) _ _ at (below_is (holds.Item at) e)
            ∙ some_there o (areas_of w a) _ _ _ (item_shown w a.heap at x there)
            ∙ either_no _ _ _ ((links.types x.ty).array ∙ array)
            ∙ some_there o (areas_of w a) _ _ _ h.found
            ∙ ap (λ c. live o (cell_in (areas_of w a) at (item_of w x) place c) (w.method f.method) (f.next + 1) f.locals rest below) (narrowed_alike _ (kept_by keeps) v h.narrows)
            ∙ led_next none join w o below f g b (cell_in (areas_of w a) at (item_of w x) place kept) rest (drop (words + 1) f.stack)
            (dropped_once f.stack (kind_words k) (words + 1) (ap (λ n. n + 1) so_many)) (cell_written w a b at place x kept now) is;
      }
