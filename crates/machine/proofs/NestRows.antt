-- The rows of multianewarray, by what the stack holds.
use Rattle.std.proofs.Common.{◌≡◌, ℕ, ◌+◌, ◌<◌, ◌≤◌, ℤ, List, [], ◌∷◌, ◌++◌, map, length, take, drop, reverse, Some, None, refl, ap, ◌∙◌}
use Rattle.std.proofs.lemmas.List.{append-nil}
use Rattle.run_state.specs.Words.{Word}
use Rattle.run_state.specs.State.{Outside, live}
use Rattle.run_state.specs.State as state
use Rattle.run_state.specs.Operands.{on_some}
use Rattle.run_state.specs.References.{given}
use Rattle.run_state.specs.Objects.{Made, nested, counts_of, sizes_of}
use Rattle.machine_heap.specs.declared.item.Item.{Item}
use Rattle.machine_frames.specs.declared.frame.Frame.{Frame}
use Rattle.machine_frames.specs.declared.flow.Fault.TheVariants as fault
use Rattle.machine_frames.specs.declared.flow.Flow.TheVariants as flow
use Rattle.linked_code.specs.declared.op.Op.TheVariants as op
use Rattle.linked_code.specs.declared.program.Program.{Program}
use Rattle.linked_code.specs.World.{World, tags_of}
use Rattle.linked_code.specs.Links.{Links}
use Rattle.machine.specs.declared.state.Areas.{Areas}
use Rattle.machine.specs.Shown.{item_of, areas_of}
use Rattle.machine.specs.Acted.{acted, led, Acts}
use Rattle.machine.specs.Nested.{Nests}
use Rattle.machine.proofs.Choices.{some_there, none_there, given_some, given_none}
use Rattle.machine.proofs.Places.{led_next}
use Rattle.machine.proofs.TakenArguments.{args_there, args_missing}

module _ {T : Type 0} (none : T) (join : T → T → T) (p : Program T) (f : Frame T) (a : Areas T) (ty n : ℕ) where
  pub nest_missing : length f.stack < n → Acts none join p (op.MultiNewArray ty n) f a flow.Stuck f a
  nest_missing l = record {
    by = λ w i o below links h. ap (λ x. acted none join w o below x f a) h ∙ args_missing o (areas_of w a) n f.stack [] _ l;
  }

  module _ (there : n ≤ length f.stack) where
    args : List (Word T)
    args = reverse (take n f.stack)

    -- what becomes of the words
    nests_at : (w : World T) (o : Outside) (below : List (state.Frame T)) → List (Word T) → state.State T
    nests_at w o below words =
        on_some o (areas_of w a) (counts_of words) (λ counts.
        given (sizes_of counts) (led none join w o below (flow.Throws fault.NegativeSize) f a) (λ sizes.
        let made = nested (tags_of none join w) sizes (w.ty ty) (areas_of w a).heap in
        live o (record (areas_of w a) { heap = made.heap }) (w.method f.method) (f.next + 1) f.locals (made.values ++ drop n f.stack) below))

    pub nest_no_count : counts_of (reverse (take n f.stack)) ≡ None → Acts none join p (op.MultiNewArray ty n) f a flow.Stuck f a
    unfolding nests_at
    nest_no_count e = record {
      by = λ w i o below links h.
          ap (λ x. acted none join w o below x f a) h
          ∙ args_there o (areas_of w a) n f.stack [] _ there
          ∙ ap (nests_at w o below) (append-nil (reverse (take n f.stack)))
          ∙ none_there o (areas_of w a) _ _ e;
    }

    module _ (counts : List ℤ) (are : counts_of (reverse (take n f.stack)) ≡ Some counts) where
      pub nest_negative : sizes_of counts ≡ None → Acts none join p (op.MultiNewArray ty n) f a (flow.Throws fault.NegativeSize) f a
      unfolding nests_at
      nest_negative e = record {
        by = λ w i o below links h.
            ap (λ x. acted none join w o below x f a) h
            ∙ args_there o (areas_of w a) n f.stack [] _ there
            ∙ ap (nests_at w o below) (append-nil (reverse (take n f.stack)))
            ∙ some_there o (areas_of w a) _ _ counts are
            ∙ given_none _ _ _ e;
      }

      pub nest_made : (sizes : List ℕ) (word : Word T) (heap : List (Item T)) (g : Frame T) (b : Areas T) → sizes_of counts ≡ Some sizes → ((w : World T) → Links none w p → Nests none join w a.heap heap sizes ty word)
          → g ≡ record f { next = f.next + 1; stack = word ∷ drop n f.stack } → b ≡ record a { heap = heap } → Acts none join p (op.MultiNewArray ty n) f a flow.Next g b
      unfolding nests_at
      nest_made sizes word heap g b e made is now = record {
        by = λ w i o below links h.
            ap (λ x. acted none join w o below x f a) h
            ∙ args_there o (areas_of w a) n f.stack [] _ there
            ∙ ap (nests_at w o below) (append-nil (reverse (take n f.stack)))
            ∙ some_there o (areas_of w a) _ _ counts are
            ∙ given_some _ _ _ sizes e
            ∙ ap (λ (m : Made T). live o (record (areas_of w a) { heap = m.heap }) (w.method f.method) (f.next + 1) f.locals (m.values ++ drop n f.stack) below) (made w links)
            ∙ led_next none join w o below f g b (record (areas_of w a) { heap = map (item_of w) heap }) (word ∷ drop n f.stack) (word ∷ drop n f.stack) refl (ap (areas_of w) now) is;
      }
