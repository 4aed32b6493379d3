-- Objects and arrays under a map of tags.
use Rattle.std.proofs.Common.{◌≡◌, ℕ, Bool, true, false, List, [], ◌∷◌, ◌++◌, map, Option, Some, None, refl, sym, ap, ◌∙◌}
use Rattle.std.specs.Prelude.{slice_get, slice_set, option_map, if◌then◌else◌}
use Rattle.std.proofs.lemmas.List.{map-set, map-append}
use Rattle.std.proofs.lemmas.Option.{slice_get-map}
use Rattle.run_state.specs.Words.{Word, Empty, Num, Long, Half, Null, Ref}
use Rattle.class_model.specs.declared.types.JType.{JType}
use Rattle.run_state.specs.State.{Method, Item, Areas}
use Rattle.run_state.specs.Looks.{Looks}
use Rattle.run_state.specs.Tags.{Tags}
use Rattle.run_state.specs.References.{item_of as target_of, refers_to, given, is_array, is_number_array}
use Rattle.run_state.specs.Marks.{value_field, is_text, mark_number, mark_cells, mark_array, mark_text, mark_item, mark_heap}
use Rattle.run_state.specs.Unwinding.{default_of, fresh_object, with_item}
use Rattle.run_state.specs.Erasure.{word_of, words_of, item_of, areas_of, Maps}
use Rattle.run_state.proofs.ErasedWords.{default_words, map_id_option}

given_same : {A B C : Type 0} (f : A → B) (x : Option A) (y : Option B) (c : C) (p : A → C) (q : B → C) → option_map f x ≡ y → ((a : A) → p a ≡ q (f a)) → given x c p ≡ given y c q
given_same f None y c p q e k = ap (λ z. given z c q) e
given_same f (Some a) y c p q e k = k a ∙ ap (λ z. given z c q) e

module _ {T U : Type 0} (h : T → U) where
  target_word : (hp : List (Item T)) (w : Word T) → option_map (item_of h) (target_of hp w) ≡ target_of (map (item_of h) hp) (word_of h w)
  target_word hp Empty = refl
  target_word hp (Num v t) = refl
  target_word hp (Long v t) = refl
  target_word hp Half = refl
  target_word hp Null = refl
  target_word hp (Ref a) = sym (slice_get-map (item_of h) hp a)

  pub refers_word : (L : Looks) (null : Bool) (hp : List (Item T)) (ty : JType) (w : Word T) → refers_to L null hp ty w ≡ refers_to L null (map (item_of h) hp) ty (word_of h w)
  refers_word L null hp ty w = given_same (item_of h) (target_of hp w) (target_of (map (item_of h) hp) (word_of h w)) null _ _ (target_word hp w) (λ x. refl)

module _ {T U : Type 0} (M : Tags T) (N : Tags U) (h : T → U) (maps : Maps M N h) where
  pub mark_number_word : (m : Method) (w : Word T) → word_of h (mark_number M m w) ≡ mark_number N m (word_of h w)
  mark_number_word m Empty = refl
  mark_number_word m (Num v t) = ap (Num v) (maps.at_marked m t)
  mark_number_word m (Long v t) = ap (Long v) (maps.at_marked m t)
  mark_number_word m Half = refl
  mark_number_word m Null = refl
  mark_number_word m (Ref a) = refl

  mark_words : (m : Method) (ws : List (Word T)) → words_of h (map (mark_number M m) ws) ≡ map (mark_number N m) (words_of h ws)
  mark_words m [] = refl
  mark_words m (w ∷ ws) =
      ap (λ x. x ∷ words_of h (map (mark_number M m) ws)) (mark_number_word m w)
      ∙ ap (λ l. mark_number N m (word_of h w) ∷ l) (mark_words m ws)

  mark_cells_item : (m : Method) (x : Item T) → item_of h (mark_cells M m x) ≡ mark_cells N m (item_of h x)
  mark_cells_item m x = ap (λ l. record { ty = x.ty; own = h x.own; cells = l }) (mark_words m x.cells)

  set_cells : (m : Method) (hp : List (Item T)) (a : ℕ) (x : Item T) → map (item_of h) (slice_set hp a (mark_cells M m x)) ≡ slice_set (map (item_of h) hp) a (mark_cells N m (item_of h x))
  set_cells m hp a x = map-set (item_of h) hp a (mark_cells M m x) ∙ ap (slice_set (map (item_of h) hp) a) (mark_cells_item m x)

  given_heap : {A B : Type 0} (f : A → B) (x : Option A) (y : Option B) (hp : List (Item T)) (go : A → List (Item T)) (go' : B → List (Item U)) → option_map f x ≡ y → ((a : A) → map (item_of h) (go a) ≡ go' (f a)) → map (item_of h) (given x hp go) ≡ given y (map (item_of h) hp) go'
  given_heap f None y hp go go' e k = ap (λ z. given z (map (item_of h) hp) go') e
  given_heap f (Some a) y hp go go' e k = k a ∙ ap (λ z. given z (map (item_of h) hp) go') e

  cond_heap : (b : Bool) (x y : List (Item T)) (x' y' : List (Item U)) → map (item_of h) x ≡ x' → map (item_of h) y ≡ y' → map (item_of h) (if b then x else y) ≡ (if b then x' else y')
  cond_heap true x y x' y' e f = e
  cond_heap false x y x' y' e f = f

  mark_array_heap : (m : Method) (hp : List (Item T)) (w : Word T) → map (item_of h) (mark_array M m hp w) ≡ mark_array N m (map (item_of h) hp) (word_of h w)
  mark_array_heap m hp Empty = refl
  mark_array_heap m hp (Num v t) = refl
  mark_array_heap m hp (Long v t) = refl
  mark_array_heap m hp Half = refl
  mark_array_heap m hp Null = refl
  mark_array_heap m hp (Ref a) = given_heap (item_of h) (slice_get hp a) (slice_get (map (item_of h) hp) a) hp _ _ (sym (slice_get-map (item_of h) hp a)) (set_cells m hp a)

  module _ (L : Looks) where
    mark_text_heap : (m : Method) (hp : List (Item T)) (x : Item T) → map (item_of h) (mark_text M L m hp x) ≡ mark_text N L m (map (item_of h) hp) (item_of h x)
    mark_text_heap m hp x =
        given_heap (λ i. i) (L.field value_field) (L.field value_field) hp _ _ (map_id_option (L.field value_field)) (λ i.
        given_heap (word_of h) (slice_get x.cells i) (slice_get (words_of h x.cells) i) hp _ _ (sym (slice_get-map (word_of h) x.cells i)) (mark_array_heap m hp))

    mark_item_heap : (m : Method) (hp : List (Item T)) (a : ℕ) (x : Item T) → map (item_of h) (mark_item M L m hp a x) ≡ mark_item N L m (map (item_of h) hp) a (item_of h x)
    mark_item_heap m hp a x =
        cond_heap (is_text x.ty) _ _ _ _ (mark_text_heap m hp x)
        (cond_heap (is_number_array x.ty) _ _ _ _ (set_cells m hp a x)
        (cond_heap (is_array x.ty) _ _ _ _ refl
        (map-set (item_of h) hp a (record x { own = M.marked m x.own })
        ∙ ap (λ t. slice_set (map (item_of h) hp) a (record { ty = x.ty; own = t; cells = words_of h x.cells })) (maps.at_marked m x.own))))

    pub mark_heap_image : (m : Method) (hp : List (Item T)) (w : Word T) → map (item_of h) (mark_heap M L m hp w) ≡ mark_heap N L m (map (item_of h) hp) (word_of h w)
    mark_heap_image m hp Empty = refl
    mark_heap_image m hp (Num v t) = refl
    mark_heap_image m hp (Long v t) = refl
    mark_heap_image m hp Half = refl
    mark_heap_image m hp Null = refl
    mark_heap_image m hp (Ref a) = given_heap (item_of h) (slice_get hp a) (slice_get (map (item_of h) hp) a) hp _ _ (sym (slice_get-map (item_of h) hp a)) (mark_item_heap m hp a)

    pub fresh_item : (c : List ℕ) → item_of h (fresh_object M L c) ≡ fresh_object N L c
    fresh_item c =
        let x = fresh_object M L c in
        ap (λ t. record { ty = x.ty; own = t; cells = words_of h x.cells }) maps.at_none
        ∙ ap (λ l. record { ty = x.ty; own = N.none; cells = l }) (default_words h M.none (L.fields c) ∙ ap (λ t. map (default_of t) (L.fields c)) maps.at_none)

  pub with_item_areas : (ar : Areas T) (x : Item T) (y : Item U) → item_of h x ≡ y → areas_of h (with_item ar x) ≡ with_item (areas_of h ar) y
  with_item_areas ar x y e =
      ap (λ l. record { heap = l; statics = words_of h ar.statics; literals = ar.literals }) (map-append (item_of h) ar.heap (x ∷ []) ∙ ap (λ z. map (item_of h) ar.heap ++ z ∷ []) e)
