-- Words of a stack and items of the heap, by their places, and what the new frame and areas show.
use Rattle.std.proofs.Common.{◌≡◌, ℕ, zero, suc, ◌+◌, ◌<◌, List, [], ◌∷◌, length, drop, refl, ap, sym, ◌∙◌, drop-drop, arith}
use Rattle.std.specs.Prelude.{slice_get, slice_set}
use Rattle.std.proofs.lemmas.List.{map-set}
use Rattle.run_state.specs.Words.{Word}
use Rattle.run_state.specs.State.{Outside, live}
use Rattle.run_state.specs.State as state
use Rattle.run_state.specs.Objects.{with_cell as cell_in}
use Rattle.machine_heap.specs.declared.item.Item.{Item}
use Rattle.machine_heap.specs.Blocks.{with_cell}
use Rattle.machine_frames.specs.declared.frame.Frame.{Frame}
use Rattle.machine_frames.specs.declared.flow.Flow.TheVariants as flow
use Rattle.linked_code.specs.World.{World}
use Rattle.machine.specs.declared.state.Areas.{Areas}
use Rattle.machine.specs.Shown.{item_of, areas_of}
use Rattle.machine.specs.declared.operands.Held.TheVariants as holds
use Rattle.machine.specs.Held.{held_by}
use Rattle.machine.specs.Acted.{led}

module _ {A : Type 0} where
  pub first_of_rest : (st : List A) (n : ℕ) → slice_get (drop n st) 0 ≡ slice_get st n
  first_of_rest [] zero = refl
  first_of_rest [] (suc n) = refl
  first_of_rest (x ∷ st) zero = refl
  first_of_rest (x ∷ st) (suc n) = first_of_rest st n

  pub dropped_once : (st : List A) (n m : ℕ) → m ≡ n + 1 → drop 1 (drop n st) ≡ drop m st
  dropped_once st n m e = drop-drop 1 n st ∙ ap (λ k. drop k st) (sym e)

-- a word that holds an item is there
pub held_within : {T : Type 0} (st : List (Word T)) (n at : ℕ) → held_by (slice_get st n) ≡ holds.Item at → n < length st
held_within [] n at e = cc
held_within (x ∷ st) zero at e = omega arith
held_within (x ∷ st) (suc n) at e = let h = held_within st n at e in omega arith

-- a cell that is written, as the definitions have the areas
pub cell_written : {T : Type 0} (w : World T) (a b : Areas T) (at i : ℕ) (x : Item T) (v : Word T) → b ≡ record a { heap = slice_set a.heap at (with_cell x i v) } → areas_of w b ≡ cell_in (areas_of w a) at (item_of w x) i v
cell_written w a b at i x v e = ap (areas_of w) e ∙ ap (λ heap. record (areas_of w a) { heap = heap }) (map-set (item_of w) a.heap at (with_cell x i v))

-- the next instruction, as the frame and the areas now show it
pub led_next : {T : Type 0} (none : T) (join : T → T → T) (w : World T) (o : Outside) (below : List (state.Frame T)) (f g : Frame T) (b : Areas T) (ar : state.Areas T) (st now : List (Word T))
    → st ≡ now → areas_of w b ≡ ar → g ≡ record f { next = f.next + 1; stack = now }
    → live o ar (w.method f.method) (f.next + 1) f.locals st below ≡ led none join w o below flow.Next g b
led_next {T} none join w o below f g b ar st now same shows is =
    ap (λ x. live o ar (w.method f.method) (f.next + 1) f.locals x below) same
    ∙ ap (λ x. live o x (w.method f.method) (f.next + 1) f.locals now below) (sym shows)
    ∙ ap (λ (x : Frame T). led none join w o below flow.Next x b) (sym is)
