-- The rows of objects and arrays under a map of tags, whatever was reported before.
use Rattle.std.proofs.Common.{◌≡◌, ℕ, zero, suc, ◌+◌, ℤ, pos, negsuc, true, false, List, [], ◌∷◌, ◌++◌, length, map, Option, Some, None, refl, sym, ap, ◌∙◌}
use Rattle.std.specs.Prelude.{slice_get, slice_set, option_map, replicate}
use Rattle.std.proofs.lemmas.List.{map-set, map-append, length-map}
use Rattle.std.proofs.lemmas.Option.{slice_get-map}
use Rattle.class_model.specs.declared.types.JType.{JType}
use Rattle.class_model.specs.declared.types.FieldRef.{FieldRef}
use Rattle.class_model.specs.declared.types.MethodRef.{MethodRef}
use Rattle.class_model.specs.declared.insn.Elem.{Elem}
use Rattle.class_model.specs.Descriptor.{words_of as argument_words}
use Rattle.run_state.specs.declared.report.Report.{Report}
use Rattle.run_state.specs.Texts.{string_name}
use Rattle.run_state.specs.Words.{Word, Empty, Num, Long, Half, Null, Ref, pushed}
use Rattle.run_state.specs.State.{Method, Frame, Item, Areas, Outside, State, live}
use Rattle.run_state.specs.Looks.{Looks}
use Rattle.run_state.specs.Tags.{Tags}
use Rattle.run_state.specs.Operands.{on_some}
use Rattle.run_state.specs.References.{is_array, element_type, refers_to}
use Rattle.run_state.specs.Marks.{value_field}
use Rattle.run_state.specs.Unwinding.{null_pointer_exception, incompatible_class_change_error, negative_array_size_exception, class_cast_exception, array_index_exception, array_store_exception, default_of, fresh_object, with_item, name_of_base}
use Rattle.run_state.specs.Calls.{narrowed_type, narrowed}
use Rattle.run_state.specs.Objects.{kind_of, kind_of_elem, receiver_class, fresh_array, with_cell, with_static, element, index_of, literal_place, text_array, text_object, with_literal, truth, special_of, with_count, counts_of, sizes_of, Made, made_times, nested, goes, fails, on_item, making, getting, putting, new_literal, literal, getting_static, putting_static, sized, making_array, nesting, measuring, loading, storing, throwing, casting, asking, on_receiver, calling, calling_virtual, calling_interface, calling_special}
use Rattle.run_state.specs.Erasure.{word_of, words_of, item_of, frames_of, areas_of, quiet, without_reports, image, Maps}
use Rattle.run_state.proofs.ErasedWords.{map_replicate, map_id_option, pushed_words, narrowed_word, default_word}
use Rattle.run_state.proofs.ErasedHeap.{refers_word, fresh_item, with_item_areas}
use Rattle.run_state.proofs.ErasedOperands.{loud, some_image, int_image, ref_image, object_image, kind_image, args_image, either_image, given_image, choose_image, thrown_image}
use Rattle.run_state.proofs.ErasedCopying.{throws_image}
use Rattle.run_state.proofs.ErasedCalls.{called_image}

element_map : {A B : Type 0} (f : A → B) (xs : List A) (i : ℤ) → option_map f (element xs i) ≡ element (map f xs) i
element_map f xs (pos i) = sym (slice_get-map f xs i)
element_map f xs (negsuc i) = refl

module _ {T U : Type 0} (h : T → U) where
  with_cell_areas : (ar : Areas T) (a : ℕ) (x : Item T) (i : ℕ) (w : Word T) (v : Word U) → word_of h w ≡ v → areas_of h (with_cell ar a x i w) ≡ with_cell (areas_of h ar) a (item_of h x) i v
  with_cell_areas ar a x i w v e =
      ap (λ hp. record (areas_of h ar) { heap = hp }) (map-set (item_of h) ar.heap a (record x { cells = slice_set x.cells i w }))
      ∙ ap (λ l. record (areas_of h ar) { heap = slice_set (map (item_of h) ar.heap) a (record { ty = x.ty; own = h x.own; cells = l }) }) (map-set (word_of h) x.cells i w ∙ ap (slice_set (words_of h x.cells) i) e)

  with_count_word : (w : Word T) (c : Option (List ℤ)) → with_count (word_of h w) c ≡ with_count w c
  with_count_word Empty None = refl
  with_count_word Empty (Some c) = refl
  with_count_word (Num v t) None = refl
  with_count_word (Num v t) (Some c) = refl
  with_count_word (Long v t) None = refl
  with_count_word (Long v t) (Some c) = refl
  with_count_word Half None = refl
  with_count_word Half (Some c) = refl
  with_count_word Null None = refl
  with_count_word Null (Some c) = refl
  with_count_word (Ref a) None = refl
  with_count_word (Ref a) (Some c) = refl

  counts_words : (ws : List (Word T)) → counts_of (words_of h ws) ≡ counts_of ws
  counts_words [] = refl
  counts_words (w ∷ ws) = with_count_word w (counts_of (words_of h ws)) ∙ ap (with_count w) (counts_words ws)

  abbrev made_of : Made T → Made U
  made_of r = record { heap = map (item_of h) r.heap; values = words_of h r.values }

  made_times_image : (n : ℕ) (make : List (Item T) → Made T) (make' : List (Item U) → Made U) → ((hp : List (Item T)) → made_of (make hp) ≡ make' (map (item_of h) hp)) → (hp : List (Item T)) → made_of (made_times n make hp) ≡ made_times n make' (map (item_of h) hp)
  made_times_image zero make make' k hp = refl
  made_times_image (suc n) make make' k hp =
      let first = make hp in
      let others = made_times n make first.heap in
      ap (λ l. record { heap = map (item_of h) others.heap; values = l }) (map-append (word_of h) first.values others.values)
      ∙ ap (λ (q : Made U). record { heap = q.heap; values = words_of h first.values ++ q.values }) (made_times_image n make make' k first.heap)
      ∙ ap (λ (f : Made U). record { heap = (made_times n make' f.heap).heap; values = f.values ++ (made_times n make' f.heap).values }) (k hp)

module _ {T U : Type 0} (M : Tags T) (N : Tags U) (h : T → U) (maps : Maps M N h) where
  default_image : (ty : JType) → word_of h (default_of M.none ty) ≡ default_of N.none ty
  default_image ty = default_word h M.none ty ∙ ap (λ t. default_of t ty) maps.at_none

  fresh_array_item : (ty : JType) (n : ℕ) → item_of h (fresh_array M ty n) ≡ fresh_array N ty n
  fresh_array_item ty n =
      ap (λ t. record { ty = ty; own = t; cells = words_of h (replicate n (default_of M.none (element_type ty))) }) maps.at_none
      ∙ ap (λ l. record { ty = ty; own = N.none; cells = l }) (map_replicate (word_of h) n (default_of M.none (element_type ty)) ∙ ap (replicate n) (default_image (element_type ty)))

  units_words : (text : List ℕ) → words_of h (map (λ unit. Num (pos unit) M.none) text) ≡ map (λ unit. Num (pos unit) N.none) text
  units_words [] = refl
  units_words (u ∷ us) =
      ap (λ t. Num (pos u) t ∷ words_of h (map (λ unit. Num (pos unit) M.none) us)) maps.at_none ∙ ap (λ l. Num (pos u) N.none ∷ l) (units_words us)

  text_array_item : (text : List ℕ) → item_of h (text_array M text) ≡ text_array N text
  text_array_item text =
      let ty = (text_array M text).ty in
      ap (λ t. record { ty = ty; own = t; cells = words_of h (text_array M text).cells }) maps.at_none
      ∙ ap (λ l. record { ty = ty; own = N.none; cells = l }) (units_words text)

  text_object_item : (L : Looks) (i a : ℕ) → item_of h (text_object M L i a) ≡ text_object N L i a
  text_object_item L i a =
      let x = fresh_object M L string_name in
      ap (λ l. record (item_of h x) { cells = l }) (map-set (word_of h) x.cells i (Ref a))
      ∙ ap (λ (y : Item U). record y { cells = slice_set y.cells i (Ref a) }) (fresh_item M N h maps L string_name)

  nested_image : (sizes : List ℕ) (ty : JType) (hp : List (Item T)) → made_of h (nested M sizes ty hp) ≡ nested N sizes ty (map (item_of h) hp)
  nested_image [] ty hp = ap (λ w. record { heap = map (item_of h) hp; values = w ∷ [] }) (default_image ty)
  nested_image (n ∷ ns) ty hp =
      let inner = made_times n (nested M ns (element_type ty)) hp in
      let new : Made U → Made U = λ r. record { heap = r.heap ++ record { ty = ty; own = N.none; cells = r.values } ∷ []; values = Ref (length r.heap) ∷ [] } in
      ap (λ hp1. record { heap = hp1; values = Ref (length inner.heap) ∷ [] }) (map-append (item_of h) inner.heap (record { ty = ty; own = M.none; cells = inner.values } ∷ []))
      ∙ ap (λ t. record { heap = map (item_of h) inner.heap ++ record { ty = ty; own = t; cells = words_of h inner.values } ∷ []; values = Ref (length inner.heap) ∷ [] }) maps.at_none
      ∙ ap (λ a. record { heap = map (item_of h) inner.heap ++ record { ty = ty; own = N.none; cells = words_of h inner.values } ∷ []; values = Ref a ∷ [] }) (sym (length-map inner.heap (item_of h)))
      ∙ ap new (made_times_image h n (nested M ns (element_type ty)) (nested N ns (element_type ty)) (nested_image ns (element_type ty)) hp)

module _ {T U : Type 0} (M : Tags T) (N : Tags U) (h : T → U) (maps : Maps M N h) (L : Looks) (o : Outside) (rs : List Report) (ar : Areas T) (m : Method) (pc : ℕ) (ls : List (Word T)) (fs : List (Frame T)) where
  goes_image : (now : Areas T) (now' : Areas U) (st : List (Word T)) (st' : List (Word U)) → areas_of h now ≡ now' → words_of h st ≡ st' → image h (goes M L o ar m pc ls fs now st) ≡ without_reports (goes N L (loud rs o) (areas_of h ar) m pc (words_of h ls) (frames_of h fs) now' st')
  goes_image now now' st st' e f =
      ap (λ a. live (quiet o) a m (pc + 1) (words_of h ls) (words_of h st) (frames_of h fs)) e
      ∙ ap (λ l. live (quiet o) now' m (pc + 1) (words_of h ls) l (frames_of h fs)) f

  fails_image : (c : List ℕ) → image h (fails M L o ar m pc ls fs c) ≡ without_reports (fails N L (loud rs o) (areas_of h ar) m pc (words_of h ls) (frames_of h fs) c)
  fails_image c = throws_image M N h maps L o rs ar c fs m pc ls

  on_item_image : (a : ℕ) (go : Item T → State T) (go' : Item U → State U) → ((x : Item T) → image h (go x) ≡ without_reports (go' (item_of h x))) → image h (on_item M L o ar m pc ls fs a go) ≡ without_reports (on_item N L (loud rs o) (areas_of h ar) m pc (words_of h ls) (frames_of h fs) a go')
  on_item_image a go go' k = some_image h o rs ar (item_of h) (slice_get ar.heap a) (slice_get (map (item_of h) ar.heap) a) go go' (sym (slice_get-map (item_of h) ar.heap a)) k

  same_image : {A : Type 0} (x : Option A) (go : A → State T) (go' : A → State U) → ((a : A) → image h (go a) ≡ without_reports (go' a)) → image h (on_some o ar x go) ≡ without_reports (on_some (loud rs o) (areas_of h ar) x go')
  same_image x go go' k = some_image h o rs ar (λ a. a) x x go go' (map_id_option x) k

  pub making_image : (x : Item T) (y : Item U) (st : List (Word T)) → item_of h x ≡ y → image h (making M L o ar m pc ls fs x st) ≡ without_reports (making N L (loud rs o) (areas_of h ar) m pc (words_of h ls) (frames_of h fs) y (words_of h st))
  making_image x y st e =
      goes_image (with_item ar x) (with_item (areas_of h ar) y) (Ref (length ar.heap) ∷ st) _ (with_item_areas M N h maps ar x y e) (ap (λ a. Ref a ∷ words_of h st) (sym (length-map ar.heap (item_of h))))

  pub getting_image : (f : FieldRef) (st : List (Word T)) → image h (getting M L o ar m pc ls fs f st) ≡ without_reports (getting N L (loud rs o) (areas_of h ar) m pc (words_of h ls) (frames_of h fs) f (words_of h st))
  getting_image f st =
      object_image h o rs ar st _ _ _ _ (fails_image null_pointer_exception) (λ a rest. on_item_image a _ _ (λ x.
      either_image h o rs ar (is_array x.ty) _ _ _ _ (fails_image incompatible_class_change_error)
      (same_image (L.field f) _ _ (λ i.
      some_image h o rs ar (word_of h) (slice_get x.cells i) (slice_get (words_of h x.cells) i) _ _ (sym (slice_get-map (word_of h) x.cells i)) (λ w.
      goes_image ar (areas_of h ar) (pushed w rest) _ refl (pushed_words h w rest))))))

  pub putting_image : (f : FieldRef) (st : List (Word T)) → image h (putting M L o ar m pc ls fs f st) ≡ without_reports (putting N L (loud rs o) (areas_of h ar) m pc (words_of h ls) (frames_of h fs) f (words_of h st))
  putting_image f st =
      kind_image h o rs ar (kind_of f.ty) st _ _ (λ w st1. object_image h o rs ar st1 _ _ _ _ (fails_image null_pointer_exception) (λ a rest. on_item_image a _ _ (λ x.
      either_image h o rs ar (is_array x.ty) _ _ _ _ (fails_image incompatible_class_change_error)
      (same_image (L.field f) _ _ (λ i.
      goes_image (with_cell ar a x i (narrowed (narrowed_type f.ty) w)) _ rest _ (with_cell_areas h ar a x i _ _ (narrowed_word h (narrowed_type f.ty) w)) refl)))))

  new_literal_image : (text : List ℕ) (st : List (Word T)) → image h (new_literal M L o ar m pc ls fs text st) ≡ without_reports (new_literal N L (loud rs o) (areas_of h ar) m pc (words_of h ls) (frames_of h fs) text (words_of h st))
  new_literal_image text st =
      same_image (L.field value_field) _ _ (λ i.
      let made = with_item ar (text_array M text) in
      let made' = with_item (areas_of h ar) (text_array N text) in
      let both : areas_of h made ≡ made' = with_item_areas M N h maps ar (text_array M text) (text_array N text) (text_array_item M N h maps text) in
      let long : length made.heap ≡ length made'.heap = sym (length-map made.heap (item_of h)) ∙ ap (λ (q : Areas U). length q.heap) both in
      let object = text_object M L i (length ar.heap) in
      let object' = text_object N L i (length (areas_of h ar).heap) in
      let one : item_of h object ≡ object' = text_object_item M N h maps L i (length ar.heap) ∙ ap (text_object N L i) (sym (length-map ar.heap (item_of h))) in
      goes_image (with_literal (with_item made object) text (length made.heap)) (with_literal (with_item made' object') text (length made'.heap)) (Ref (length made.heap) ∷ st) _
      (ap (λ q. with_literal q text (length made.heap)) (with_item_areas M N h maps made object object' one ∙ ap (λ q. with_item q object') both) ∙ ap (with_literal (with_item made' object') text) long)
      (ap (λ a. Ref a ∷ words_of h st) long))

  pub literal_image : (text : List ℕ) (st : List (Word T)) → image h (literal M L o ar m pc ls fs text st) ≡ without_reports (literal N L (loud rs o) (areas_of h ar) m pc (words_of h ls) (frames_of h fs) text (words_of h st))
  literal_image text st =
      given_image h o rs ar (λ a. a) (literal_place ar.literals text) (literal_place ar.literals text) _ _ _ _ (map_id_option (literal_place ar.literals text)) (new_literal_image text st) (λ a.
      goes_image ar (areas_of h ar) (Ref a ∷ st) _ refl refl)

  pub getting_static_image : (f : FieldRef) (st : List (Word T)) → image h (getting_static M L o ar m pc ls fs f st) ≡ without_reports (getting_static N L (loud rs o) (areas_of h ar) m pc (words_of h ls) (frames_of h fs) f (words_of h st))
  getting_static_image f st =
      same_image (L.static f) _ _ (λ s. given_image h o rs ar (λ t. t) s.text s.text _ _ _ _ (map_id_option s.text)
      (some_image h o rs ar (word_of h) (slice_get ar.statics s.place) (slice_get (words_of h ar.statics) s.place) _ _ (sym (slice_get-map (word_of h) ar.statics s.place)) (λ w.
      goes_image ar (areas_of h ar) (pushed w st) _ refl (pushed_words h w st)))
      (λ text. literal_image text st))

  pub putting_static_image : (f : FieldRef) (st : List (Word T)) → image h (putting_static M L o ar m pc ls fs f st) ≡ without_reports (putting_static N L (loud rs o) (areas_of h ar) m pc (words_of h ls) (frames_of h fs) f (words_of h st))
  putting_static_image f st =
      same_image (L.static f) _ _ (λ s. kind_image h o rs ar (kind_of f.ty) st _ _ (λ w rest.
      goes_image (with_static ar s.place (narrowed (narrowed_type f.ty) w)) _ rest _
      (ap (λ l. record (areas_of h ar) { statics = l }) (map-set (word_of h) ar.statics s.place (narrowed (narrowed_type f.ty) w) ∙ ap (slice_set (words_of h ar.statics) s.place) (narrowed_word h (narrowed_type f.ty) w))) refl))

  sized_image : (v : ℤ) (go : ℕ → State T) (go' : ℕ → State U) → ((n : ℕ) → image h (go n) ≡ without_reports (go' n)) → image h (sized M L o ar m pc ls fs v go) ≡ without_reports (sized N L (loud rs o) (areas_of h ar) m pc (words_of h ls) (frames_of h fs) v go')
  sized_image (pos n) go go' k = k n
  sized_image (negsuc n) go go' k = fails_image negative_array_size_exception

  pub making_array_image : (ty : JType) (st : List (Word T)) → image h (making_array M L o ar m pc ls fs ty st) ≡ without_reports (making_array N L (loud rs o) (areas_of h ar) m pc (words_of h ls) (frames_of h fs) ty (words_of h st))
  making_array_image ty st =
      int_image h o rs ar st _ _ (λ v t rest. sized_image v _ _ (λ n. making_image (fresh_array M ty n) (fresh_array N ty n) rest (fresh_array_item M N h maps ty n)))

  pub nesting_image : (ty : JType) (n : ℕ) (st : List (Word T)) → image h (nesting M L o ar m pc ls fs ty n st) ≡ without_reports (nesting N L (loud rs o) (areas_of h ar) m pc (words_of h ls) (frames_of h fs) ty n (words_of h st))
  nesting_image ty n st =
      args_image h o rs ar n st [] _ _ (λ words rest.
      some_image h o rs ar (λ a. a) (counts_of words) (counts_of (words_of h words)) _ _ (map_id_option (counts_of words) ∙ sym (counts_words h words)) (λ counts.
      given_image h o rs ar (λ a. a) (sizes_of counts) (sizes_of counts) _ _ _ _ (map_id_option (sizes_of counts)) (fails_image negative_array_size_exception) (λ sizes.
      let made = nested M sizes ty ar.heap in
      let e = nested_image M N h maps sizes ty ar.heap in
      goes_image (record ar { heap = made.heap }) _ (made.values ++ rest) _
      (ap (λ (q : Made U). record (areas_of h ar) { heap = q.heap }) e)
      (map-append (word_of h) made.values rest ∙ ap (λ (q : Made U). q.values ++ words_of h rest) e))))

  pub measuring_image : (st : List (Word T)) → image h (measuring M L o ar m pc ls fs st) ≡ without_reports (measuring N L (loud rs o) (areas_of h ar) m pc (words_of h ls) (frames_of h fs) (words_of h st))
  measuring_image st =
      object_image h o rs ar st _ _ _ _ (fails_image null_pointer_exception) (λ a rest. on_item_image a _ _ (λ x.
      goes_image ar (areas_of h ar) (Num (pos (length x.cells)) M.none ∷ rest) _ refl
      (ap (λ t. Num (pos (length x.cells)) t ∷ words_of h rest) maps.at_none ∙ ap (λ n. Num (pos n) N.none ∷ words_of h rest) (sym (length-map x.cells (word_of h))))))

  pub loading_image : (st : List (Word T)) → image h (loading M L o ar m pc ls fs st) ≡ without_reports (loading N L (loud rs o) (areas_of h ar) m pc (words_of h ls) (frames_of h fs) (words_of h st))
  loading_image st =
      int_image h o rs ar st _ _ (λ i t st1. object_image h o rs ar st1 _ _ _ _ (fails_image null_pointer_exception) (λ a rest. on_item_image a _ _ (λ x.
      given_image h o rs ar (word_of h) (element x.cells i) (element (words_of h x.cells) i) _ _ _ _ (element_map (word_of h) x.cells i) (fails_image array_index_exception) (λ w.
      goes_image ar (areas_of h ar) (pushed w rest) _ refl (pushed_words h w rest)))))

  pub storing_image : (e : Elem) (st : List (Word T)) → image h (storing M L o ar m pc ls fs e st) ≡ without_reports (storing N L (loud rs o) (areas_of h ar) m pc (words_of h ls) (frames_of h fs) e (words_of h st))
  storing_image e st =
      kind_image h o rs ar (kind_of_elem e) st _ _ (λ w st1. int_image h o rs ar st1 _ _ (λ i t st2. object_image h o rs ar st2 _ _ _ _ (fails_image null_pointer_exception) (λ a rest. on_item_image a _ _ (λ x.
      given_image h o rs ar (word_of h) (element x.cells i) (element (words_of h x.cells) i) _ _ _ _ (element_map (word_of h) x.cells i) (fails_image array_index_exception) (λ old.
      choose_image h o rs ar (refers_to L true ar.heap (element_type x.ty) w) (refers_to L true (map (item_of h) ar.heap) (element_type x.ty) (word_of h w)) _ _ _ _ (refers_word h L true ar.heap (element_type x.ty) w)
      (goes_image (with_cell ar a x (index_of i) (narrowed (narrowed_type (element_type x.ty)) w)) _ rest _ (with_cell_areas h ar a x (index_of i) _ _ (narrowed_word h (narrowed_type (element_type x.ty)) w)) refl)
      (fails_image array_store_exception))))))

  pub throwing_image : (st : List (Word T)) → image h (throwing M L o ar m pc ls fs st) ≡ without_reports (throwing N L (loud rs o) (areas_of h ar) m pc (words_of h ls) (frames_of h fs) (words_of h st))
  throwing_image st =
      object_image h o rs ar st _ _ _ _ (fails_image null_pointer_exception) (λ a rest. on_item_image a _ _ (λ x. thrown_image h o rs ar L (name_of_base x.ty.base) a fs m pc ls))

  pub casting_image : (ty : JType) (st : List (Word T)) → image h (casting M L o ar m pc ls fs ty st) ≡ without_reports (casting N L (loud rs o) (areas_of h ar) m pc (words_of h ls) (frames_of h fs) ty (words_of h st))
  casting_image ty st =
      ref_image h o rs ar st _ _ (λ w rest.
      choose_image h o rs ar (refers_to L true ar.heap ty w) (refers_to L true (map (item_of h) ar.heap) ty (word_of h w)) _ _ _ _ (refers_word h L true ar.heap ty w)
      (goes_image ar (areas_of h ar) (w ∷ rest) _ refl refl) (fails_image class_cast_exception))

  pub asking_image : (ty : JType) (st : List (Word T)) → image h (asking M L o ar m pc ls fs ty st) ≡ without_reports (asking N L (loud rs o) (areas_of h ar) m pc (words_of h ls) (frames_of h fs) ty (words_of h st))
  asking_image ty st =
      ref_image h o rs ar st _ _ (λ w rest.
      goes_image ar (areas_of h ar) (Num (truth (refers_to L false ar.heap ty w)) M.none ∷ rest) _ refl
      (ap (λ t. Num (truth (refers_to L false ar.heap ty w)) t ∷ words_of h rest) maps.at_none ∙ ap (λ b. Num (truth b) N.none ∷ words_of h rest) (refers_word h L false ar.heap ty w)))

  on_receiver_image : (ref : MethodRef) (st : List (Word T)) (go : List (Word T) → Item T → List (Word T) → State T) (go' : List (Word U) → Item U → List (Word U) → State U) → ((args : List (Word T)) (x : Item T) (rest : List (Word T)) → image h (go args x rest) ≡ without_reports (go' (words_of h args) (item_of h x) (words_of h rest))) → image h (on_receiver M L o ar m pc ls fs ref st go) ≡ without_reports (on_receiver N L (loud rs o) (areas_of h ar) m pc (words_of h ls) (frames_of h fs) ref (words_of h st) go')
  on_receiver_image ref st go go' k =
      args_image h o rs ar (argument_words ref.desc true) st [] _ _ (λ args rest. object_image h o rs ar args _ _ _ _ (fails_image null_pointer_exception) (λ a more. on_item_image a _ _ (λ x. k args x rest)))

  calling_image : (found : Option Method) (args rest : List (Word T)) → image h (calling M L o ar m pc ls fs found args rest) ≡ without_reports (calling N L (loud rs o) (areas_of h ar) m pc (words_of h ls) (frames_of h fs) found (words_of h args) (words_of h rest))
  calling_image found args rest = same_image found _ _ (λ callee. called_image M N h maps L o rs ar callee args m pc ls rest fs)

  pub calling_virtual_image : (ref : MethodRef) (st : List (Word T)) → image h (calling_virtual M L o ar m pc ls fs ref st) ≡ without_reports (calling_virtual N L (loud rs o) (areas_of h ar) m pc (words_of h ls) (frames_of h fs) ref (words_of h st))
  calling_virtual_image ref st = on_receiver_image ref st _ _ (λ args x rest. calling_image (L.selected (receiver_class x.ty) ref) args rest)

  pub calling_interface_image : (ref : MethodRef) (st : List (Word T)) → image h (calling_interface M L o ar m pc ls fs ref st) ≡ without_reports (calling_interface N L (loud rs o) (areas_of h ar) m pc (words_of h ls) (frames_of h fs) ref (words_of h st))
  calling_interface_image ref st =
      on_receiver_image ref st _ _ (λ args x rest.
      either_image h o rs ar (L.fits x.ty ref.class) _ _ _ _ (calling_image (L.selected (receiver_class x.ty) ref) args rest) (fails_image incompatible_class_change_error))

  pub calling_special_image : (ref : MethodRef) (st : List (Word T)) → image h (calling_special M L o ar m pc ls fs ref st) ≡ without_reports (calling_special N L (loud rs o) (areas_of h ar) m pc (words_of h ls) (frames_of h fs) ref (words_of h st))
  calling_special_image ref st =
      on_receiver_image ref st _ _ (λ args x rest. same_image (L.method ref) _ _ (λ found. calling_image (special_of L m ref found) args rest))
