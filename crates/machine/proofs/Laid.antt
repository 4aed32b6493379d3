-- Elements that are written in the heap, one after the other.
use Rattle.std.proofs.Common.{◌≡◌, ℕ, zero, suc, ◌+◌, ◌<◌, List, [], ◌∷◌, ◌++◌, length, take, drop, get_or, Option, Some, None, refl, ap, sym, ◌∙◌, arith}
use Rattle.std.specs.Prelude.{slice_get, slice_set}
use Rattle.std.proofs.lemmas.List.{map-set, length-set, set-append_left, set-set, take-set-le, take_all, drop_more}
use Rattle.run_state.specs.Words.{Word}
use Rattle.run_state.specs.Copying.{with_elements, with_array}
use Rattle.run_state.specs.References.{given}
use Rattle.machine_heap.specs.declared.item.Item.{Item}
use Rattle.machine_heap.specs.Blocks.{with_cell}
use Rattle.linked_code.specs.World.{World}
use Rattle.machine.specs.declared.state.Areas.{Areas}
use Rattle.machine.specs.Shown.{item_of, areas_of}
use Rattle.machine.specs.Copied.{written_in, laid_in}
use Rattle.machine.proofs.TakenArguments.{front}

module _ {A : Type 0} where
  set_found : (xs : List A) (i : ℕ) (x : A) → slice_get xs i ≡ Some x → slice_set xs i x ≡ xs
  set_found [] i x e = cc
  set_found (y ∷ xs) zero x e = let h : y ≡ x = cc in ap (λ q. q ∷ xs) (sym h)
  set_found (y ∷ xs) (suc i) x e = ap (λ q. y ∷ q) (set_found xs i x e)

  found_set : (xs : List A) (i : ℕ) (x y : A) → slice_get xs i ≡ Some x → slice_get (slice_set xs i y) i ≡ Some y
  found_set [] i x y e = cc
  found_set (z ∷ xs) zero x y e = refl
  found_set (z ∷ xs) (suc i) x y e = found_set xs i x y e

  found_in_front : (xs ys : List A) (i : ℕ) → i < length xs → slice_get (xs ++ ys) i ≡ slice_get xs i
  found_in_front [] ys i l = absurd (omega arith)
  found_in_front (x ∷ xs) ys zero l = refl
  found_in_front (x ∷ xs) ys (suc i) l = found_in_front xs ys i (omega arith)

  some_within : (xs : List A) (i : ℕ) → i < length xs → (x : A) × (slice_get xs i ≡ Some x)
  some_within [] i l = absurd (omega arith)
  some_within (x ∷ xs) zero l = (x, refl)
  some_within (x ∷ xs) (suc i) l = some_within xs i (omega arith)

  -- one word more of a list that is copied into another
  pub copied_more : (xs old new : List A) (k j : ℕ) (x : A) → k < length xs → length old ≡ length xs → take k old ≡ take k xs → slice_get xs k ≡ Some x → new ≡ slice_set old k x → j ≡ k + 1
      → (length new ≡ length xs) × (take j new ≡ take j xs)
  copied_more xs old new k j x within long so_far e is next =
      let there = some_within old k (omega arith) in
      let one : j ≡ suc k = omega arith in (
        ap length is ∙ length-set old k x ∙ long,
        ap (λ q. take q new) one
            ∙ ap (take (suc k)) is
            ∙ front (slice_set old k x) x k (found_set old k there.0 x there.1)
            ∙ ap (λ q. q ++ x ∷ []) (take-set-le k old k x (omega arith) ∙ so_far)
            ∙ sym (front xs x k e)
            ∙ ap (λ q. take q xs) (sym one),
      )

  pub copied_whole : (xs new : List A) (k : ℕ) → k ≡ length xs → (length new ≡ length xs) × (take k new ≡ take k xs) → new ≡ xs
  copied_whole xs new k all h = sym (take_all k new (omega (arith, h.0))) ∙ h.1 ∙ take_all k xs (omega arith)

module _ {T : Type 0} where
  written_is : (heap : List (Item T)) (at i : ℕ) (w : Word T) (y : Item T) → slice_get heap at ≡ Some y → written_in heap at i w ≡ slice_set heap at (with_cell y i w)
  written_is heap at i w y e = ap (λ o. given o heap (λ x. slice_set heap at (with_cell x i w))) e

  -- what the heap's call says of a place that is there
  pub written_there : (heap new : List (Item T)) (at i : ℕ) (w : Word T) → at < length heap → ((x : Item T) → slice_get heap at ≡ Some x → new ≡ slice_set heap at (with_cell x i w)) → new ≡ written_in heap at i w
  written_there heap new at i w l h = let x = some_within heap at l in h x.0 x.1 ∙ sym (written_is heap at i w x.0 x.1)

  as_long : (heap : List (Item T)) (at i : ℕ) (w : Word T) (o : Option (Item T)) → length (given o heap (λ x. slice_set heap at (with_cell x i w))) ≡ length heap
  as_long heap at i w None = refl
  as_long heap at i w (Some x) = length-set heap at (with_cell x i w)

  written_length : (heap : List (Item T)) (at i : ℕ) (w : Word T) → length (written_in heap at i w) ≡ length heap
  written_length heap at i w = as_long heap at i w (slice_get heap at)

  -- one element more
  pub laid_next : (heap new init : List (Item T)) (ws : List (Word T)) (at i k n : ℕ) (w : Word T) → k < length ws → w ≡ get_or ws k w → at < length heap
      → ((x : Item T) → slice_get heap at ≡ Some x → new ≡ slice_set heap at (with_cell x (i + k) w)) → laid_in heap at (i + k) (drop k ws) ≡ init → length heap ≡ n
      → (laid_in new at (i + (k + 1)) (drop (k + 1) ws) ≡ init) × (length new ≡ n)
  laid_next heap new init ws at i k n w within is there h so_far long =
      let here = written_there heap new at (i + k) w there h in
      let next : i + (k + 1) ≡ i + k + 1 = omega arith in (
        ap (λ j. laid_in new at j (drop (k + 1) ws)) next
            ∙ ap (λ (q : List (Item T)). laid_in q at (i + k + 1) (drop (k + 1) ws)) here
            ∙ ap (λ (v : Word T). laid_in heap at (i + k) (v ∷ drop (k + 1) ws)) is
            ∙ ap (laid_in heap at (i + k)) (sym (drop_more ws k w within))
            ∙ so_far,
        ap length here ∙ written_length heap at (i + k) w ∙ long,
      )

  pub laid_length : (ws : List (Word T)) (heap : List (Item T)) (at i : ℕ) → length (laid_in heap at i ws) ≡ length heap
  laid_length [] heap at i = refl
  laid_length (w ∷ ws) heap at i = laid_length ws (written_in heap at i w) at (i + 1) ∙ written_length heap at i w

  -- the item with its elements written
  pub laid_is : (ws : List (Word T)) (heap : List (Item T)) (at i : ℕ) (y : Item T) → slice_get heap at ≡ Some y → laid_in heap at i ws ≡ slice_set heap at (record y { cells = with_elements y.cells i ws })
  laid_is [] heap at i y e = sym (set_found heap at y e)
  laid_is (w ∷ ws) heap at i y e =
      let one = with_cell y i w in
      ap (λ (h : List (Item T)). laid_in h at (i + 1) ws) (written_is heap at i w y e)
      ∙ laid_is ws (slice_set heap at one) at (i + 1) one (found_set heap at y one e)
      ∙ set-set heap at one (record y { cells = with_elements (slice_set y.cells i w) (i + 1) ws })

  -- items behind all stay behind all
  pub laid_in_front : (ws : List (Word T)) (heap more : List (Item T)) (at i : ℕ) → at < length heap → laid_in (heap ++ more) at i ws ≡ laid_in heap at i ws ++ more
  laid_in_front [] heap more at i l = refl
  laid_in_front (w ∷ ws) heap more at i l =
      let x = some_within heap at l in
      let one = with_cell x.0 i w in
      let here = written_is heap at i w x.0 x.1 in
      let long = written_length heap at i w in
      ap (λ (h : List (Item T)). laid_in h at (i + 1) ws)
      (written_is (heap ++ more) at i w x.0 (found_in_front heap more at l ∙ x.1) ∙ set-append_left heap more at one l ∙ ap (λ (h : List (Item T)). h ++ more) (sym here))
      ∙ laid_in_front ws (written_in heap at i w) more at (i + 1) (omega (arith, long))

  -- and as the definitions have the areas
  pub laid_shown : (w : World T) (a : Areas T) (at i : ℕ) (y : Item T) (ws : List (Word T)) → slice_get a.heap at ≡ Some y → areas_of w (record a { heap = laid_in a.heap at i ws }) ≡ with_array (areas_of w a) at (item_of w y) i ws
  laid_shown w a at i y ws e =
      ap (λ (h : List (Item T)). areas_of w (record a { heap = h })) (laid_is ws a.heap at i y e)
      ∙ ap (λ heap. record (areas_of w a) { heap = heap }) (map-set (item_of w) a.heap at (record y { cells = with_elements y.cells i ws }))
