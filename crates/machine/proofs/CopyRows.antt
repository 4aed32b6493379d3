-- The rows of arraycopy, by what its arguments hold and what the heap has.
use Rattle.std.proofs.Common.{◌≡◌, ℕ, ◌+◌, ℤ, List, [], ◌∷◌, drop, length, map, Option, Some, None, refl, ap, sym, ◌∙◌}
use Rattle.std.specs.Prelude.{Bool, true, false, ◌&&◌, ◌==◌, leb, not, slice_get, option_map, if◌then◌else◌}
use Rattle.std.proofs.lemmas.Option.{slice_get-map}
use Rattle.class_model.specs.declared.types.BaseType.{BaseType}
use Rattle.class_model.specs.declared.types.BaseType.TheVariants as base
use Rattle.class_model.specs.Descriptor.{is_primitive_base}
use Rattle.run_state.specs.Texts.{same_base}
use Rattle.run_state.specs.Words.{Word, Empty, Num, Long, Half, Null, Ref}
use Rattle.run_state.specs.State.{Areas as AreasOf, Outside, State}
use Rattle.run_state.specs.Operands.{either, stuck, on_some, on_int, on_object}
use Rattle.run_state.specs.References.{given, is_array}
use Rattle.run_state.specs.Copying.{are_alike, as_place, copying, copying_items, copied_between, copied_range}
use Rattle.machine_words.specs.Tops.{as_int}
use Rattle.machine_heap.specs.declared.item.Item.{Item}
use Rattle.machine_frames.specs.declared.flow.Fault.TheVariants as fault
use Rattle.linked_code.specs.declared.program.Program.{Program}
use Rattle.linked_code.specs.World.{World, tags_of}
use Rattle.linked_code.specs.Kept.{numbers_of, primitive_of}
use Rattle.linked_code.specs.Links.{Links}
use Rattle.linked_code.specs.Numbered.{type_at}
use Rattle.machine.specs.declared.requests.Spot.{Spot}
use Rattle.machine.specs.declared.requests.Spot.TheVariants as spot
use Rattle.machine.specs.declared.requests.Request.{Request}
use Rattle.machine.specs.declared.requests.Asked.{Asked}
use Rattle.machine.specs.declared.requests.Asked.TheVariants as asked
use Rattle.machine.specs.declared.requests.Span.{Span}
use Rattle.machine.specs.declared.requests.Plan.{Plan}
use Rattle.machine.specs.declared.requests.Plan.TheVariants as plan
use Rattle.machine.specs.declared.state.Machine.{Machine}
use Rattle.machine.specs.Shown.{item_of, areas_of, outside_of, frame_of}
use Rattle.machine.specs.Copied.{spot_by, with_spot, with_count, requested_by, same_numbers, alike_by, within_by, in_range, judged_by, judged_asked, planned_by, copied_at}
use Rattle.machine.specs.Unwound.{fault_at}
use Rattle.machine.proofs.Choices.{some_there, item_shown}

-- ---- the arguments

fifth : {A : Type 0} (xs : List A) → slice_get (drop 2 (drop 2 xs)) 0 ≡ slice_get xs 4
fifth [] = refl
fifth (x ∷ []) = refl
fifth (x ∷ y ∷ []) = refl
fifth (x ∷ y ∷ z ∷ []) = refl
fifth (x ∷ y ∷ z ∷ u ∷ []) = refl
fifth (x ∷ y ∷ z ∷ u ∷ v ∷ xs) = refl

module _ {T : Type 0} (o : Outside) (ar : AreasOf T) (null : State T) where
  on_spot : Spot → (ℕ → ℤ → State T) → State T
  on_spot spot.Nothing go = stuck o ar
  on_spot spot.Null go = null
  on_spot (spot.At a i) go = go a i

  on_count : Option (ℤ × T) → (ℤ → State T) → State T
  on_count None go = stuck o ar
  on_count (Some x) go = go x.0

  on_asked : Asked → (Request → State T) → State T
  on_asked asked.Nothing go = stuck o ar
  on_asked asked.Null go = null
  on_asked (asked.Copy r) go = go r

  spot_first : (args : List (Word T)) (go : ℕ → ℤ → List (Word T) → State T)
      → on_object o ar args null (λ a rest. on_int o ar rest (λ i t more. go a i more)) ≡ on_spot (spot_by args 0) (λ a i. go a i (drop 2 args))
  unfolding on_spot
  spot_first [] go = refl
  spot_first (Empty ∷ st) go = refl
  spot_first (Num v t ∷ st) go = refl
  spot_first (Long v t ∷ st) go = refl
  spot_first (Half ∷ st) go = refl
  spot_first (Null ∷ st) go = refl
  spot_first (Ref a ∷ []) go = refl
  spot_first (Ref a ∷ Empty ∷ st) go = refl
  spot_first (Ref a ∷ Num v t ∷ st) go = refl
  spot_first (Ref a ∷ Long v t ∷ st) go = refl
  spot_first (Ref a ∷ Half ∷ st) go = refl
  spot_first (Ref a ∷ Null ∷ st) go = refl
  spot_first (Ref a ∷ Ref b ∷ st) go = refl

  count_first : (args : List (Word T)) (go : ℤ → State T) → on_int o ar args (λ n t more. go n) ≡ on_count (as_int (slice_get args 0)) go
  unfolding on_count
  count_first [] go = refl
  count_first (Empty ∷ st) go = refl
  count_first (Num v t ∷ st) go = refl
  count_first (Long v t ∷ st) go = refl
  count_first (Half ∷ st) go = refl
  count_first (Null ∷ st) go = refl
  count_first (Ref a ∷ st) go = refl

  spot_same : (s : Spot) (f g : ℕ → ℤ → State T) → ((a : ℕ) (i : ℤ) → f a i ≡ g a i) → on_spot s f ≡ on_spot s g
  unfolding on_spot
  spot_same spot.Nothing f g h = refl
  spot_same spot.Null f g h = refl
  spot_same (spot.At a i) f g h = h a i

  second_spot : (xs : List (Word T)) → spot_by (drop 2 xs) 0 ≡ spot_by xs 2
  second_spot [] = refl
  second_spot (x ∷ []) = refl
  second_spot (x ∷ y ∷ st) = refl

  -- the second array and its index, and the count
  target_of : (args : List (Word T)) (go : ℕ → ℤ → ℤ → State T)
      → on_object o ar (drop 2 args) null (λ b rest. on_int o ar rest (λ to t more. on_int o ar more (λ n u last. go b to n)))
      ≡ on_spot (spot_by args 2) (λ b to. on_count (as_int (slice_get args 4)) (λ n. go b to n))
  unfolding on_spot on_count
  target_of args go =
      spot_first (drop 2 args) (λ b to more. on_int o ar more (λ n u last. go b to n))
      ∙ ap (λ s. on_spot s (λ b to. on_int o ar (drop 2 (drop 2 args)) (λ n u last. go b to n))) (second_spot args)
      ∙ spot_same (spot_by args 2) _ _ (λ b to.
      count_first (drop 2 (drop 2 args)) (λ n. go b to n)
      ∙ ap (λ q. on_count (as_int q) (λ n. go b to n)) (fifth args))

  -- the cases of both arrays and the count, as one
  gathered : (s t : Spot) (n : Option (ℤ × T)) (go : Request → State T)
      → on_spot s (λ a from. on_spot t (λ b to. on_count n (λ count. go (record { source = a; from = from; target = b; to = to; count = count }))))
      ≡ on_asked (with_spot s (λ a from. with_spot t (λ b to. with_count n (λ count. asked.Copy (record { source = a; from = from; target = b; to = to; count = count }))))) go
  unfolding on_spot on_count on_asked
  gathered spot.Nothing t n go = refl
  gathered spot.Null t n go = refl
  gathered (spot.At a i) spot.Nothing n go = refl
  gathered (spot.At a i) spot.Null n go = refl
  gathered (spot.At a i) (spot.At b j) None go = refl
  gathered (spot.At a i) (spot.At b j) (Some x) go = refl

-- ---- the arrays

-- of two arrays, by their numbers
by_depth : (x y : Bool) (a b : BaseType)
    → (if x && is_primitive_base a then (y && is_primitive_base b) && same_base a b else not (y && is_primitive_base b))
    ≡ same_numbers (if x then primitive_of a else None) (if y then primitive_of b else None)
by_depth true true (base.Primitive p) (base.Primitive q) = refl
by_depth true true (base.Primitive p) (base.Class c) = refl
by_depth true true (base.Class c) (base.Primitive q) = refl
by_depth true true (base.Class c) (base.Class d) = refl
by_depth true false (base.Primitive p) b = refl
by_depth true false (base.Class c) b = refl
by_depth false true a (base.Primitive q) = refl
by_depth false true a (base.Class d) = refl
by_depth false false a b = refl

module _ {T : Type 0} (none : T) (join : T → T → T) (w : World T) (p : Program T) (links : Links none w p) where
  alike_is : (m n : ℕ) → are_alike (w.ty m) (w.ty n) ≡ alike_by p m n
  alike_is m n =
      let x = links.types m in
      let y = links.types n in
      ap (λ b. is_array (w.ty m) && is_array (w.ty n) && b) (by_depth ((w.ty m).depth == 1) ((w.ty n).depth == 1) (w.ty m).base (w.ty n).base)
      ∙ ap (λ b. b && is_array (w.ty n) && same_numbers (numbers_of (w.ty m)) (numbers_of (w.ty n))) x.array
      ∙ ap (λ b. (type_at p m).is_array && b && same_numbers (numbers_of (w.ty m)) (numbers_of (w.ty n))) y.array
      ∙ ap (λ o. (type_at p m).is_array && (type_at p n).is_array && same_numbers o (numbers_of (w.ty n))) x.numbers
      ∙ ap (λ o. (type_at p m).is_array && (type_at p n).is_array && same_numbers (type_at p m).numbers o) y.numbers

  module _ (m : Machine T) (more : List ℕ) (words : ℕ) where
    abbrev pub planned_at : Plan → State T
    planned_at plan.Nowhere = stuck (outside_of w m more) (areas_of w m.areas)
    planned_at (plan.Throws k) = fault_at none join w k m more
    planned_at (plan.Copies s) = copied_at none join w s words m more

    chosen : (a b : Bool) (x y : State T) (f g : Plan) → a ≡ b → x ≡ planned_at f → y ≡ planned_at g → either a x y ≡ planned_at (if b then f else g)
    chosen a true x y f g e h k = ap (λ c. either c x y) e ∙ h
    chosen a false x y f g e h k = ap (λ c. either c x y) e ∙ k

    spans : (b : Bool) (x y : State T) (s : Span) → x ≡ planned_at (plan.Copies s) → y ≡ planned_at (plan.Throws fault.ArrayIndex) → either b x y ≡ planned_at (in_range (if b then Some s else None))
    spans true x y s h k = h
    spans false x y s h k = k

    places : (i j n : Option ℕ) (go : ℕ → ℕ → ℕ → State T) (span : ℕ → ℕ → ℕ → Option Span) → ((a b c : ℕ) → go a b c ≡ planned_at (in_range (span a b c)))
        → given i (planned_at (plan.Throws fault.ArrayIndex)) (λ a. given j (planned_at (plan.Throws fault.ArrayIndex)) (λ b. given n (planned_at (plan.Throws fault.ArrayIndex)) (λ c. go a b c)))
        ≡ planned_at (in_range (given i None (λ a. given j None (λ b. given n None (λ c. span a b c)))))
    places None j n go span h = refl
    places (Some a) None n go span h = refl
    places (Some a) (Some b) None go span h = refl
    places (Some a) (Some b) (Some c) go span h = h a b c

    module _ (r : Request) where
      abbrev pub rest : List (Word T)
      rest = drop words m.top.stack

      between : (x y : Item T) → slice_get m.areas.heap r.source ≡ Some x → slice_get m.areas.heap r.target ≡ Some y
          → copied_between (tags_of none join w) w.looks (outside_of w m more) (areas_of w m.areas) (w.method m.top.method) m.top.next m.top.locals rest (map (frame_of w) m.below) (item_of w x) r.from r.target (item_of w y) r.to r.count
          ≡ planned_at (if alike_by p x.ty y.ty then in_range (within_by x y r) else plan.Throws fault.ArrayStore)
      between x y ex ey =
          let o = outside_of w m more in
          let ar = areas_of w m.areas in
          let past : State T = planned_at (plan.Throws fault.ArrayIndex) in
          let go : ℕ → ℕ → ℕ → State T =
          λ i j n. copied_range (tags_of none join w) w.looks o ar (w.method m.top.method) m.top.next m.top.locals rest (map (frame_of w) m.below) (item_of w x) i r.target (item_of w y) j n in
          let span : ℕ → ℕ → ℕ → Option Span =
          λ i j n. if leb (i + n) (length x.cells) && leb (j + n) (length y.cells) then Some (record { source = r.source; from = i; target = r.target; to = j; count = n }) else None in
          let ranged : (i j n : ℕ) → go i j n ≡ planned_at (in_range (span i j n)) =
          λ i j n. spans (leb (i + n) (length x.cells) && leb (j + n) (length y.cells)) _ past (record { source = r.source; from = i; target = r.target; to = j; count = n })
          (sym (some_there o ar _ _ _ (item_shown w m.areas.heap r.source x ex) ∙ some_there o ar _ _ _ (item_shown w m.areas.heap r.target y ey))) refl in
          chosen (are_alike (w.ty x.ty) (w.ty y.ty)) (alike_by p x.ty y.ty) (given (as_place r.from) past (λ i. given (as_place r.to) past (λ j. given (as_place r.count) past (λ n. go i j n)))) (planned_at (plan.Throws fault.ArrayStore))
          (in_range (within_by x y r)) (plan.Throws fault.ArrayStore) (alike_is x.ty y.ty)
          (places (as_place r.from) (as_place r.to) (as_place r.count) go span ranged) refl

      both : (ox oy : Option (Item T)) → slice_get m.areas.heap r.source ≡ ox → slice_get m.areas.heap r.target ≡ oy
          → on_some (outside_of w m more) (areas_of w m.areas) (option_map (item_of w) ox) (λ x. on_some (outside_of w m more) (areas_of w m.areas) (option_map (item_of w) oy) (λ y.
          copied_between (tags_of none join w) w.looks (outside_of w m more) (areas_of w m.areas) (w.method m.top.method) m.top.next m.top.locals rest (map (frame_of w) m.below) x r.from r.target y r.to r.count))
          ≡ planned_at (given ox plan.Nowhere (λ x. given oy plan.Nowhere (λ y. if alike_by p x.ty y.ty then in_range (within_by x y r) else plan.Throws fault.ArrayStore)))
      both None oy ex ey = refl
      both (Some x) None ex ey = refl
      both (Some x) (Some y) ex ey = between x y ex ey

      judged_is : copying_items (tags_of none join w) w.looks (outside_of w m more) (areas_of w m.areas) (w.method m.top.method) m.top.next m.top.locals rest (map (frame_of w) m.below) r.source r.from r.target r.to r.count
          ≡ planned_at (judged_by p m.areas.heap r)
      judged_is =
          let o = outside_of w m more in
          let ar = areas_of w m.areas in
          ap (λ q. on_some o ar q (λ x. on_some o ar (slice_get ar.heap r.target) (λ y.
          copied_between (tags_of none join w) w.looks o ar (w.method m.top.method) m.top.next m.top.locals rest (map (frame_of w) m.below) x r.from r.target y r.to r.count))) (slice_get-map (item_of w) m.areas.heap r.source)
          ∙ ap (λ q. on_some o ar (option_map (item_of w) (slice_get m.areas.heap r.source)) (λ x. on_some o ar q (λ y.
          copied_between (tags_of none join w) w.looks o ar (w.method m.top.method) m.top.next m.top.locals rest (map (frame_of w) m.below) x r.from r.target y r.to r.count))) (slice_get-map (item_of w) m.areas.heap r.target)
          ∙ both (slice_get m.areas.heap r.source) (slice_get m.areas.heap r.target) refl refl

    asked_is : (a : Asked)
        → on_asked (outside_of w m more) (areas_of w m.areas) (planned_at (plan.Throws fault.NullPointer)) a (λ r.
        copying_items (tags_of none join w) w.looks (outside_of w m more) (areas_of w m.areas) (w.method m.top.method) m.top.next m.top.locals (drop words m.top.stack) (map (frame_of w) m.below) r.source r.from r.target r.to r.count)
        ≡ planned_at (judged_asked p m.areas.heap a)
    unfolding on_asked
    asked_is asked.Nothing = refl
    asked_is asked.Null = refl
    asked_is (asked.Copy r) = judged_is r

    -- what a copy of these arguments comes to
    pub planned_is : (args : List (Word T))
        → copying (tags_of none join w) w.looks (outside_of w m more) (areas_of w m.areas) (w.method m.top.method) m.top.next m.top.locals (drop words m.top.stack) (map (frame_of w) m.below) args
        ≡ planned_at (planned_by p m.areas.heap args)
    planned_is args =
        let o = outside_of w m more in
        let ar = areas_of w m.areas in
        let null : State T = planned_at (plan.Throws fault.NullPointer) in
        let items : ℕ → ℤ → ℕ → ℤ → ℤ → State T =
        λ a from b to count. copying_items (tags_of none join w) w.looks o ar (w.method m.top.method) m.top.next m.top.locals (drop words m.top.stack) (map (frame_of w) m.below) a from b to count in
        spot_first o ar null args (λ a from args2. on_object o ar args2 null (λ b args3. on_int o ar args3 (λ to u args4. on_int o ar args4 (λ count v last. items a from b to count))))
        ∙ spot_same o ar null (spot_by args 0) _ _ (λ a from. target_of o ar null args (λ b to count. items a from b to count))
        ∙ gathered o ar null (spot_by args 0) (spot_by args 2) (as_int (slice_get args 4)) (λ r. items r.source r.from r.target r.to r.count)
        ∙ asked_is (requested_by args)
