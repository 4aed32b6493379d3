-- A throw by the machine, and arraycopy, under a map of tags, whatever was reported before.
use Rattle.std.proofs.Common.{◌≡◌, ℕ, ◌+◌, ℤ, Bool, true, false, List, [], ◌∷◌, length, map, take, drop, refl, sym, ap, ◌∙◌}
use Rattle.std.specs.Prelude.{slice_get, slice_set, leb, ◌&&◌, ◌==◌, if◌then◌else◌}
use Rattle.std.proofs.lemmas.List.{map-set, length-map, drop-map, take-map}
use Rattle.std.proofs.lemmas.Option.{slice_get-map}
use Rattle.class_model.specs.declared.types.JType.{JType}
use Rattle.run_state.specs.declared.report.Report.{Report}
use Rattle.run_state.specs.Words.{Word}
use Rattle.run_state.specs.State.{Method, Frame, Item, Areas, Outside, live}
use Rattle.run_state.specs.Looks.{Looks}
use Rattle.run_state.specs.Tags.{Tags}
use Rattle.run_state.specs.References.{element_type, refers_to}
use Rattle.run_state.specs.Unwinding.{null_pointer_exception, array_index_exception, array_store_exception, fresh_object, with_item, thrown, throws}
use Rattle.run_state.specs.Copying.{are_alike, fitting, with_elements, with_array, as_place, copy_fails, copied, copied_range, copied_between, copying_items, copying_to, copying}
use Rattle.run_state.specs.Erasure.{word_of, words_of, item_of, frames_of, areas_of, quiet, without_reports, image, Maps}
use Rattle.run_state.proofs.ErasedWords.{map_id_option}
use Rattle.run_state.proofs.ErasedHeap.{refers_word, fresh_item, with_item_areas}
use Rattle.run_state.proofs.ErasedOperands.{loud, some_image, int_image, object_image, either_image, given_image, choose_image, thrown_image}

module _ {T U : Type 0} (h : T → U) where
  cond_words : (b c : Bool) (xs : List (Word T)) (ys : List (Word U)) → b ≡ c → words_of h xs ≡ ys → words_of h (if b then xs else []) ≡ (if c then ys else [])
  cond_words true c xs ys e f = f ∙ ap (λ z. if z then ys else []) e
  cond_words false c xs ys e f = ap (λ z. if z then ys else []) e

  fitting_words : (L : Looks) (hp : List (Item T)) (ty : JType) (ws : List (Word T)) → words_of h (fitting L hp ty ws) ≡ fitting L (map (item_of h) hp) ty (words_of h ws)
  fitting_words L hp ty [] = refl
  fitting_words L hp ty (w ∷ ws) =
      cond_words (refers_to L true hp ty w) (refers_to L true (map (item_of h) hp) ty (word_of h w)) (w ∷ fitting L hp ty ws) _
      (refers_word h L true hp ty w) (ap (λ l. word_of h w ∷ l) (fitting_words L hp ty ws))

  with_elements_words : (xs : List (Word T)) (at : ℕ) (ws : List (Word T)) → words_of h (with_elements xs at ws) ≡ with_elements (words_of h xs) at (words_of h ws)
  with_elements_words xs at [] = refl
  with_elements_words xs at (w ∷ ws) =
      with_elements_words (slice_set xs at w) (at + 1) ws ∙ ap (λ l. with_elements l (at + 1) (words_of h ws)) (map-set (word_of h) xs at w)

  with_array_areas : (ar : Areas T) (b : ℕ) (y : Item T) (to : ℕ) (ws : List (Word T)) → areas_of h (with_array ar b y to ws) ≡ with_array (areas_of h ar) b (item_of h y) to (words_of h ws)
  with_array_areas ar b y to ws =
      ap (λ hp. record (areas_of h ar) { heap = hp }) (map-set (item_of h) ar.heap b (record y { cells = with_elements y.cells to ws }))
      ∙ ap (λ l. record (areas_of h ar) { heap = slice_set (map (item_of h) ar.heap) b (record { ty = y.ty; own = h y.own; cells = l }) }) (with_elements_words y.cells to ws)

module _ {T U : Type 0} (M : Tags T) (N : Tags U) (h : T → U) (maps : Maps M N h) (L : Looks) where
  -- a throw by the machine, of a fresh object
  pub throws_image : (o : Outside) (rs : List Report) (ar : Areas T) (c : List ℕ) (fs : List (Frame T)) (m : Method) (at : ℕ) (ls : List (Word T)) → image h (throws M L o ar c fs m at ls) ≡ without_reports (throws N L (loud rs o) (areas_of h ar) c (frames_of h fs) m at (words_of h ls))
  throws_image o rs ar c fs m at ls =
      thrown_image h o rs (with_item ar (fresh_object M L c)) L c (length ar.heap) fs m at ls
      ∙ ap (λ q. without_reports (thrown L (loud rs o) q c (length ar.heap) (frames_of h fs) m at (words_of h ls))) (with_item_areas M N h maps ar _ _ (fresh_item M N h maps L c))
      ∙ ap (λ a. without_reports (thrown L (loud rs o) (with_item (areas_of h ar) (fresh_object N L c)) c a (frames_of h fs) m at (words_of h ls))) (sym (length-map ar.heap (item_of h)))

  module _ (o : Outside) (rs : List Report) (ar : Areas T) (m : Method) (pc : ℕ) (ls rest : List (Word T)) (fs : List (Frame T)) where
    copy_fails_image : (now : Areas T) (now' : Areas U) (c : List ℕ) → areas_of h now ≡ now' → image h (copy_fails M L o ar m pc ls rest fs now c) ≡ without_reports (copy_fails N L (loud rs o) (areas_of h ar) m pc (words_of h ls) (words_of h rest) (frames_of h fs) now' c)
    copy_fails_image now now' c e =
        throws_image o rs now c fs m pc ls ∙ ap (λ a. without_reports (throws N L (loud rs o) a c (frames_of h fs) m pc (words_of h ls))) e

    copied_image : (count b : ℕ) (y : Item T) (to : ℕ) (ws : List (Word T)) (vs : List (Word U)) → words_of h ws ≡ vs → image h (copied M L o ar m pc ls rest fs count b y to ws) ≡ without_reports (copied N L (loud rs o) (areas_of h ar) m pc (words_of h ls) (words_of h rest) (frames_of h fs) count b (item_of h y) to vs)
    copied_image count b y to ws vs e =
        let now : areas_of h (with_array ar b y to ws) ≡ with_array (areas_of h ar) b (item_of h y) to vs =
        with_array_areas h ar b y to ws ∙ ap (with_array (areas_of h ar) b (item_of h y) to) e in
        choose_image h o rs ar (length ws == count) (length vs == count) _ _ _ _ (ap (λ n. n == count) (sym (length-map ws (word_of h)) ∙ ap length e))
        (ap (λ a. live (quiet o) a m (pc + 1) (words_of h ls) (words_of h rest) (frames_of h fs)) now)
        (copy_fails_image (with_array ar b y to ws) _ array_store_exception now)

    copied_range_image : (x : Item T) (from b : ℕ) (y : Item T) (to count : ℕ) → image h (copied_range M L o ar m pc ls rest fs x from b y to count) ≡ without_reports (copied_range N L (loud rs o) (areas_of h ar) m pc (words_of h ls) (words_of h rest) (frames_of h fs) (item_of h x) from b (item_of h y) to count)
    copied_range_image x from b y to count =
        choose_image h o rs ar (leb (from + count) (length x.cells) && leb (to + count) (length y.cells)) _ _ _ _ _
        (ap (λ n. leb (from + count) n && leb (to + count) (length y.cells)) (sym (length-map x.cells (word_of h)))
        ∙ ap (λ n. leb (from + count) (length (words_of h x.cells)) && leb (to + count) n) (sym (length-map y.cells (word_of h))))
        (copied_image count b y to (fitting L ar.heap (element_type y.ty) (take count (drop from x.cells))) _
        (fitting_words h L ar.heap (element_type y.ty) (take count (drop from x.cells))
        ∙ ap (fitting L (map (item_of h) ar.heap) (element_type y.ty)) (sym (take-map (word_of h) count (drop from x.cells)) ∙ ap (take count) (sym (drop-map (word_of h) from x.cells)))))
        (copy_fails_image ar (areas_of h ar) array_index_exception refl)

    copied_between_image : (x : Item T) (from : ℤ) (b : ℕ) (y : Item T) (to count : ℤ) → image h (copied_between M L o ar m pc ls rest fs x from b y to count) ≡ without_reports (copied_between N L (loud rs o) (areas_of h ar) m pc (words_of h ls) (words_of h rest) (frames_of h fs) (item_of h x) from b (item_of h y) to count)
    copied_between_image x from b y to count =
        let out = copy_fails_image ar (areas_of h ar) array_index_exception refl in
        either_image h o rs ar (are_alike x.ty y.ty) _ _ _ _
        (given_image h o rs ar (λ i. i) (as_place from) (as_place from) _ _ _ _ (map_id_option (as_place from)) out (λ i.
        given_image h o rs ar (λ j. j) (as_place to) (as_place to) _ _ _ _ (map_id_option (as_place to)) out (λ j.
        given_image h o rs ar (λ n. n) (as_place count) (as_place count) _ _ _ _ (map_id_option (as_place count)) out (λ n.
        copied_range_image x i b y j n))))
        (copy_fails_image ar (areas_of h ar) array_store_exception refl)

    copying_items_image : (a : ℕ) (from : ℤ) (b : ℕ) (to count : ℤ) → image h (copying_items M L o ar m pc ls rest fs a from b to count) ≡ without_reports (copying_items N L (loud rs o) (areas_of h ar) m pc (words_of h ls) (words_of h rest) (frames_of h fs) a from b to count)
    copying_items_image a from b to count =
        some_image h o rs ar (item_of h) (slice_get ar.heap a) (slice_get (map (item_of h) ar.heap) a) _ _ (sym (slice_get-map (item_of h) ar.heap a)) (λ x.
        some_image h o rs ar (item_of h) (slice_get ar.heap b) (slice_get (map (item_of h) ar.heap) b) _ _ (sym (slice_get-map (item_of h) ar.heap b)) (λ y.
        copied_between_image x from b y to count))

    copying_to_image : (a : ℕ) (from : ℤ) (b : ℕ) (args : List (Word T)) → image h (copying_to M L o ar m pc ls rest fs a from b args) ≡ without_reports (copying_to N L (loud rs o) (areas_of h ar) m pc (words_of h ls) (words_of h rest) (frames_of h fs) a from b (words_of h args))
    copying_to_image a from b args = int_image h o rs ar args _ _ (λ to u args1. int_image h o rs ar args1 _ _ (λ count v more. copying_items_image a from b to count))

    null_image : image h (copy_fails M L o ar m pc ls rest fs ar null_pointer_exception) ≡ without_reports (copy_fails N L (loud rs o) (areas_of h ar) m pc (words_of h ls) (words_of h rest) (frames_of h fs) (areas_of h ar) null_pointer_exception)
    null_image = copy_fails_image ar (areas_of h ar) null_pointer_exception refl

    pub copying_image : (args : List (Word T)) → image h (copying M L o ar m pc ls rest fs args) ≡ without_reports (copying N L (loud rs o) (areas_of h ar) m pc (words_of h ls) (words_of h rest) (frames_of h fs) (words_of h args))
    copying_image args =
        object_image h o rs ar args _ _ _ _ null_image (λ a args1. int_image h o rs ar args1 _ _ (λ from t args2.
        object_image h o rs ar args2 _ _ _ _ null_image (λ b args3. copying_to_image a from b args3)))
