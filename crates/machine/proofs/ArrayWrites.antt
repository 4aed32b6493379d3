-- The rows of the stores of elements, by what the stack and the heap hold.
use Rattle.std.proofs.Common.{◌≡◌, ℕ, ◌+◌, ℤ, List, Some, None, drop, map, refl, ap, ◌∙◌, arith}
use Rattle.std.specs.Prelude.{slice_get, slice_set, true, false}
use Rattle.class_model.specs.declared.insn.Elem.{Elem}
use Rattle.class_model.specs.declared.types.JType.{JType}
use Rattle.run_state.specs.Words.{Word}
use Rattle.run_state.specs.State.{live}
use Rattle.run_state.specs.References.{refers_to, element_type}
use Rattle.run_state.specs.Calls.{narrowed, narrowed_type}
use Rattle.run_state.specs.Objects.{element, index_of, kind_of_elem, with_cell as cell_in}
use Rattle.machine_heap.specs.declared.item.Item.{Item}
use Rattle.machine_heap.specs.Blocks.{with_cell}
use Rattle.machine_words.specs.Tops.{as_int}
use Rattle.machine_frames.specs.declared.frame.Frame.{Frame}
use Rattle.machine_frames.specs.declared.flow.Fault.TheVariants as fault
use Rattle.machine_frames.specs.declared.flow.Flow.TheVariants as flow
use Rattle.machine_frames.specs.Acts.{HasKind, LacksKind}
use Rattle.linked_code.specs.declared.op.Op.TheVariants as op
use Rattle.linked_code.specs.declared.program.Program.{Program}
use Rattle.linked_code.specs.World.{World}
use Rattle.linked_code.specs.Kept.{kept_by}
use Rattle.linked_code.specs.Links.{Links}
use Rattle.linked_code.specs.Numbered.{type_at}
use Rattle.machine.specs.declared.state.Areas.{Areas}
use Rattle.machine.specs.declared.operands.Held.{Held}
use Rattle.machine.specs.declared.operands.Held.TheVariants as holds
use Rattle.machine.specs.Held.{held_by}
use Rattle.machine.specs.Referred.{refers_by}
use Rattle.machine.specs.Shown.{item_of, areas_of}
use Rattle.machine.specs.Acted.{acted, Acts}
use Rattle.machine.proofs.OperandTops.{object_item, object_null, object_nothing}
use Rattle.machine.proofs.KindTops.{int_on, int_off}
use Rattle.machine.proofs.Choices.{either_yes, either_no, some_there, none_there, given_some, given_none, item_shown, no_item_shown}
use Rattle.machine.proofs.Places.{first_of_rest, dropped_once, cell_written, led_next}
use Rattle.machine.proofs.Returning.{narrowed_alike}
use Rattle.machine.proofs.TypeRows.{refers_is}

module _ {T : Type 0} (none : T) (join : T → T → T) (p : Program T) (f : Frame T) (a : Areas T) (el : Elem) where
  pub store_none : LacksKind (kind_of_elem el) f.stack → Acts none join p (op.ArrayStore el) f a flow.Stuck f a
  store_none e = record {
    by = λ w i o below links h. ap (λ x. acted none join w o below x f a) h ∙ e o (areas_of w a) _;
  }

  module _ (value : Word T) (words : ℕ) (has : HasKind (kind_of_elem el) f.stack value (drop words f.stack)) where
    pub store_no_index : as_int (slice_get f.stack words) ≡ None → Acts none join p (op.ArrayStore el) f a flow.Stuck f a
    store_no_index e = record {
      by = λ w i o below links h.
          ap (λ x. acted none join w o below x f a) h
          ∙ has o (areas_of w a) _
          ∙ int_off o (areas_of w a) (drop words f.stack) _ (ap as_int (first_of_rest f.stack words) ∙ e);
    }

    module _ (v : ℤ) (t : T) (index : as_int (slice_get f.stack words) ≡ Some (v, t)) where
      index_is : as_int (slice_get (drop words f.stack) 0) ≡ Some (v, t)
      index_is = ap as_int (first_of_rest f.stack words) ∙ index

      below_is : (x : Held) → held_by (slice_get f.stack (words + 1)) ≡ x → held_by (slice_get (drop 1 (drop words f.stack)) 0) ≡ x
      below_is x e = ap (λ (st : List (Word T)). held_by (slice_get st 0)) (dropped_once f.stack words (words + 1) refl) ∙ ap held_by (first_of_rest f.stack (words + 1)) ∙ e

      pub store_into_nothing : held_by (slice_get f.stack (words + 1)) ≡ holds.Nothing → Acts none join p (op.ArrayStore el) f a flow.Stuck f a
      store_into_nothing e = record {
        by = λ w i o below links h.
            ap (λ x. acted none join w o below x f a) h
            ∙ has o (areas_of w a) _
            ∙ int_on o (areas_of w a) (drop words f.stack) _ v t index_is
            ∙ object_nothing o (areas_of w a) (drop 1 (drop words f.stack)) _ _ (below_is holds.Nothing e);
      }

      pub store_into_null : held_by (slice_get f.stack (words + 1)) ≡ holds.Null → Acts none join p (op.ArrayStore el) f a (flow.Throws fault.NullPointer) f a
      store_into_null e = record {
        by = λ w i o below links h.
            ap (λ x. acted none join w o below x f a) h
            ∙ has o (areas_of w a) _
            ∙ int_on o (areas_of w a) (drop words f.stack) _ v t index_is
            ∙ object_null o (areas_of w a) (drop 1 (drop words f.stack)) _ _ (below_is holds.Null e);
      }

      module _ (at : ℕ) (e : held_by (slice_get f.stack (words + 1)) ≡ holds.Item at) where
        pub store_nowhere : slice_get a.heap at ≡ None → Acts none join p (op.ArrayStore el) f a flow.Stuck f a
        store_nowhere there = record {
          by = λ w i o below links h.
              ap (λ x. acted none join w o below x f a) h
              ∙ has o (areas_of w a) _
              ∙ int_on o (areas_of w a) (drop words f.stack) _ v t index_is
              ∙ object_item o (areas_of w a) (drop 1 (drop words f.stack)) _ _ at (below_is (holds.Item at) e)
              ∙ none_there o (areas_of w a) _ _ (no_item_shown w a.heap at there);
        }

        module _ (x : Item T) (there : slice_get a.heap at ≡ Some x) where
          pub store_past : element x.cells v ≡ None → Acts none join p (op.ArrayStore el) f a (flow.Throws fault.ArrayIndex) f a
          store_past past = record {
            by = λ w i o below links h.
                ap (λ x. acted none join w o below x f a) h
                ∙ has o (areas_of w a) _
                ∙ int_on o (areas_of w a) (drop words f.stack) _ v t index_is
                ∙ object_item o (areas_of w a) (drop 1 (drop words f.stack)) _ _ at (below_is (holds.Item at) e)
                ∙ some_there o (areas_of w a) _ _ _ (item_shown w a.heap at x there)
                ∙ given_none _ _ _ past;
          }

          module _ (old : Word T) (within : element x.cells v ≡ Some old) where
            -- whether the elements of the array take the value
            taken : (w : World T) → Links none w p → refers_to w.looks true (map (item_of w) a.heap) (element_type (w.ty x.ty)) value ≡ refers_by p a.heap (type_at p x.ty).element true (held_by (Some value))
            taken w links =
                ap (λ (ty : JType). refers_to w.looks true (map (item_of w) a.heap) ty value) (links.types x.ty).element
                ∙ refers_is none w p links a.heap (type_at p x.ty).element true value

            -- what the elements keep of an int
            kept : (w : World T) → Links none w p → (n : ℤ) → narrowed_type (element_type (w.ty x.ty)) n ≡ kept_by (type_at p (type_at p x.ty).element).narrowing n
            kept w links n =
                ap (λ (ty : JType). narrowed_type ty n) (links.types x.ty).element
                ∙ (links.types (type_at p x.ty).element).narrows n

            pub store_refused : refers_by p a.heap (type_at p x.ty).element true (held_by (Some value)) ≡ false → Acts none join p (op.ArrayStore el) f a (flow.Throws fault.ArrayStore) f a
            store_refused no_fit = record {
              by = λ w i o below links h.
                  ap (λ x. acted none join w o below x f a) h
                  ∙ has o (areas_of w a) _
                  ∙ int_on o (areas_of w a) (drop words f.stack) _ v t index_is
                  ∙ object_item o (areas_of w a) (drop 1 (drop words f.stack)) _ _ at (below_is (holds.Item at) e)
                  ∙ some_there o (areas_of w a) _ _ _ (item_shown w a.heap at x there)
                  ∙ given_some _ _ _ old within
                  ∙ either_no _ _ _ (taken w links ∙ no_fit);
            }

            pub store : (g : Frame T) (b : Areas T) → refers_by p a.heap (type_at p x.ty).element true (held_by (Some value)) ≡ true
                → g ≡ record f { next = f.next + 1; stack = drop (words + 2) f.stack }
                → b ≡ record a { heap = slice_set a.heap at (with_cell x (index_of v) (narrowed (kept_by (type_at p (type_at p x.ty).element).narrowing) value)) }
                → Acts none join p (op.ArrayStore el) f a flow.Next g b
            store g b fit is now = record {
              by = λ w i o below links h.
                  let cell = narrowed (kept_by (type_at p (type_at p x.ty).element).narrowing) value in
                  let rest = drop 1 (drop 1 (drop words f.stack)) in
                  ap (λ x. acted none join w o below x f a) h
                  ∙ has o (areas_of w a) _
                  ∙ int_on o (areas_of w a) (drop words f.stack) _ v t index_is
                  ∙ object_item o (areas_of w a) (drop 1 (drop words f.stack)) _ _ at (below_is (holds.Item at) e)
                  ∙ some_there o (areas_of w a) _ _ _ (item_shown w a.heap at x there)
                  ∙ given_some _ _ _ old within
                  ∙ either_yes _ _ _ (taken w links ∙ fit)
                  ∙ ap (λ c. live o (cell_in (areas_of w a) at (item_of w x) (index_of v) c) (w.method f.method) (f.next + 1) f.locals rest below) (narrowed_alike _ (kept_by (type_at p (type_at p x.ty).element).narrowing) value (kept w links))
                  ∙ led_next none join w o below f g b (cell_in (areas_of w a) at (item_of w x) (index_of v) cell) rest (drop (words + 2) f.stack)
                  (ap (drop 1) (dropped_once f.stack words (words + 1) refl) ∙ dropped_once f.stack (words + 1) (words + 2) (omega arith)) (cell_written w a b at (index_of v) x cell now) is;
            }
