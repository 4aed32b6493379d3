-- Arrays of arrays: their counts, and the arrays that are made one after the other.
use Rattle.std.proofs.Common.{◌≡◌, ℕ, zero, suc, ◌+◌, ◌<◌, ◌≤◌, ℤ, List, [], ◌∷◌, ◌++◌, map, length, take, drop, Option, Some, None, refl, ap, sym, ◌∙◌, append_assoc, arith}
use Rattle.std.specs.Prelude.{slice_get}
use Rattle.std.proofs.lemmas.List.{append-nil, map-append, length-map, length-append, take_at, drop_all}
use Rattle.class_model.specs.declared.types.JType.{JType}
use Rattle.run_state.specs.Words.{Word, Empty, Num, Long, Half, Null, Ref}
use Rattle.run_state.specs.State as state
use Rattle.run_state.specs.Objects.{Made, made_times, nested, with_count, counts_of}
use Rattle.machine_heap.specs.declared.item.Item.{Item}
use Rattle.machine_words.specs.Tops.{as_int}
use Rattle.linked_code.specs.declared.program.Program.{Program}
use Rattle.linked_code.specs.World.{World, tags_of}
use Rattle.linked_code.specs.Links.{Links}
use Rattle.linked_code.specs.Numbered.{type_at}
use Rattle.machine.specs.Shown.{item_of}
use Rattle.machine.specs.Nested.{Grows, Nests, joined, appended}

module _ {A : Type 0} where
  pub grows_none : (xs : List A) → Grows xs xs
  grows_none xs = ([], sym (append-nil xs))

  pub grows_same : (xs ys : List A) → ys ≡ xs → Grows xs ys
  grows_same xs ys e = ([], e ∙ sym (append-nil xs))

  pub grows_then : (xs ys zs : List A) → Grows xs ys → Grows ys zs → Grows xs zs
  grows_then xs ys zs a b = (a.0 ++ b.0, b.1 ∙ ap (λ q. q ++ b.0) a.1 ∙ append_assoc xs a.0 b.0)

  pub grows_one : (xs ys : List A) (x : A) → ys ≡ xs ++ x ∷ [] → Grows xs ys
  grows_one xs ys x e = (x ∷ [], e)

  pub shortened : (xs ys now : List A) (n : ℕ) → Grows xs ys → n ≡ length xs → now ≡ take n ys → now ≡ xs
  shortened xs ys now n g e is = is ∙ ap (take n) g.1 ∙ take_at xs g.0 n (sym e)

  pub fits : (xs ys : List A) (n : ℕ) → Grows xs ys → n ≡ length xs → n ≤ length ys
  fits xs ys n g e = let long = ap length g.1 ∙ length-append xs g.0 in omega arith

module _ {T : Type 0} where
  count_front : (args : List (Word T)) (k : ℕ) (v : ℤ) (t : T) → as_int (slice_get args k) ≡ Some (v, t) → drop k args ≡ Num v t ∷ drop (suc k) args
  count_front [] k v t e = cc
  count_front (Empty ∷ args) zero v t e = cc
  count_front (Num x u ∷ args) zero v t e = let h : ◌≡◌ {A = ℤ × T} (x, u) (v, t) = cc in ap (λ (q : ℤ × T). Num q.0 q.1 ∷ args) h
  count_front (Long x u ∷ args) zero v t e = cc
  count_front (Half ∷ args) zero v t e = cc
  count_front (Null ∷ args) zero v t e = cc
  count_front (Ref a ∷ args) zero v t e = cc
  count_front (x ∷ args) (suc k) v t e = count_front args k v t e

  count_over : (cs : List ℤ) (v : ℤ) (t : T) (o : Option (List ℤ)) → appended cs (with_count (Num v t) o) ≡ appended (cs ++ v ∷ []) o
  count_over cs v t None = refl
  count_over cs v t (Some ds) = ap Some (sym (append_assoc cs (v ∷ []) ds))

  -- one count more
  pub count_next : (args : List (Word T)) (k j : ℕ) (cs new : List ℤ) (v : ℤ) (t : T) (whole : Option (List ℤ)) → as_int (slice_get args k) ≡ Some (v, t) → whole ≡ appended cs (counts_of (drop k args)) → new ≡ cs ++ v ∷ [] → j ≡ k + 1
      → whole ≡ appended new (counts_of (drop j args))
  count_next args k j cs new v t whole e so_far now next =
      let more : suc k ≡ j = omega arith in
      so_far
      ∙ ap (λ q. appended cs (counts_of q)) (count_front args k v t e)
      ∙ count_over cs v t (counts_of (drop (suc k) args))
      ∙ ap (λ q. appended q (counts_of (drop (suc k) args))) (sym now)
      ∙ ap (λ q. appended new (counts_of (drop q args))) more

  no_count : (w : Word T) (o : Option (List ℤ)) → as_int (Some w) ≡ None → with_count w o ≡ None
  no_count w None e = refl
  no_count Empty (Some cs) e = refl
  no_count (Num v t) (Some cs) e = cc
  no_count (Long v t) (Some cs) e = refl
  no_count Half (Some cs) e = refl
  no_count Null (Some cs) e = refl
  no_count (Ref a) (Some cs) e = refl

  none_from : (args : List (Word T)) (k : ℕ) → as_int (slice_get args k) ≡ None → k < length args → counts_of (drop k args) ≡ None
  none_from [] k e l = absurd (omega arith)
  none_from (w ∷ args) zero e l = no_count w (counts_of args) e
  none_from (w ∷ args) (suc k) e l = none_from args k e (omega arith)

  pub count_none : (args : List (Word T)) (k : ℕ) (cs : List ℤ) (whole : Option (List ℤ)) → as_int (slice_get args k) ≡ None → k < length args → whole ≡ appended cs (counts_of (drop k args)) → None ≡ whole
  count_none args k cs whole e l so_far = sym (so_far ∙ ap (appended cs) (none_from args k e l))

  pub counts_all : (args : List (Word T)) (k : ℕ) (cs : List ℤ) (whole : Option (List ℤ)) → length args ≤ k → whole ≡ appended cs (counts_of (drop k args)) → Some cs ≡ whole
  counts_all args k cs whole l so_far = sym (so_far ∙ ap (λ q. appended cs (counts_of q)) (drop_all k args l) ∙ ap Some (append-nil cs))

  -- one array more
  pub made_next : (make : List (state.Item T) → Made T) (j i : ℕ) (hp next : List (state.Item T)) (cells now : List (Word T)) (word : Word T) (whole : Made T) → whole ≡ joined cells (made_times j make hp) → j ≡ i + 1
      → make hp ≡ record { heap = next; values = word ∷ [] } → now ≡ cells ++ word ∷ [] → whole ≡ joined now (made_times i make next)
  made_next make j i hp next cells now word whole so_far more made is =
      let one : j ≡ suc i = omega arith in
      so_far
      ∙ ap (λ q. joined cells (made_times q make hp)) one
      ∙ ap (λ (m : Made T). record { heap = (made_times i make m.heap).heap; values = cells ++ (m.values ++ (made_times i make m.heap).values) }) made
      ∙ ap (λ q. record { heap = (made_times i make next).heap; values = q }) (sym (append_assoc cells (word ∷ []) (made_times i make next).values))
      ∙ ap (λ q. joined q (made_times i make next)) (sym is)

  pub made_all : (make : List (state.Item T) → Made T) (i : ℕ) (hp : List (state.Item T)) (cells : List (Word T)) (whole : Made T) → whole ≡ joined cells (made_times i make hp) → i ≡ 0 → whole ≡ record { heap = hp; values = cells }
  made_all make i hp cells whole so_far e =
      so_far ∙ ap (λ q. joined cells (made_times q make hp)) e ∙ ap (λ q. record { heap = hp; values = q }) (append-nil cells)

module _ {T : Type 0} (none : T) (join : T → T → T) (w : World T) (p : Program T) (links : Links none w p) where
  pub nests_none : (heap : List (Item T)) (sizes : List ℕ) (ty : ℕ) (word : Word T) → sizes ≡ [] → word ≡ (type_at p ty).default → Nests none join w heap heap sizes ty word
  nests_none heap sizes ty word e is =
      ap (λ ns. nested (tags_of none join w) ns (w.ty ty) (map (item_of w) heap)) e
      ∙ ap (λ d. record { heap = map (item_of w) heap; values = d ∷ [] }) ((links.types ty).default ∙ sym is)

  -- an array of what was made
  pub nests_some : (old mid new : List (Item T)) (sizes rest : List ℕ) (n ty place : ℕ) (cells : List (Word T)) (x : Item T) → sizes ≡ n ∷ rest
      → made_times n (nested (tags_of none join w) rest (w.ty (type_at p ty).element)) (map (item_of w) old) ≡ record { heap = map (item_of w) mid; values = cells }
      → x ≡ record { ty = ty; own = none; cells = cells } → new ≡ mid ++ x ∷ [] → place ≡ length mid → Nests none join w old new sizes ty (Ref place)
  nests_some old mid new sizes rest n ty place cells x e made item now here =
      let M = tags_of none join w in
      ap (λ ns. nested M ns (w.ty ty) (map (item_of w) old)) e
      ∙ ap (λ (j : JType). let inner = made_times n (nested M rest j) (map (item_of w) old) in record { heap = inner.heap ++ record { ty = w.ty ty; own = none; cells = inner.values } ∷ []; values = Ref (length inner.heap) ∷ [] }) (links.types ty).element
      ∙ ap (λ (inner : Made T). record { heap = inner.heap ++ record { ty = w.ty ty; own = none; cells = inner.values } ∷ []; values = Ref (length inner.heap) ∷ [] }) made
      ∙ ap (λ k. record { heap = map (item_of w) mid ++ record { ty = w.ty ty; own = none; cells = cells } ∷ []; values = Ref k ∷ [] }) (length-map mid (item_of w) ∙ sym here)
      ∙ ap (λ (y : Item T). record { heap = map (item_of w) mid ++ item_of w y ∷ []; values = Ref place ∷ [] }) (sym item)
      ∙ ap (λ q. record { heap = q; values = Ref place ∷ [] }) (sym (map-append (item_of w) mid (x ∷ [])) ∙ ap (map (item_of w)) (sym now))
