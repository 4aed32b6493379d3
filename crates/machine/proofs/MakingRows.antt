-- The rows of new objects and arrays.
use Rattle.std.proofs.Common.{◌≡◌, ℕ, ◌+◌, ℤ, pos, negsuc, List, [], ◌∷◌, ◌++◌, length, replicate, Some, None, drop, refl, ap, sym, ◌∙◌}
use Rattle.std.specs.Prelude.{slice_get}
use Rattle.std.proofs.lemmas.List.{length-map}
use Rattle.class_model.specs.declared.insn.Insn.{Insn}
use Rattle.class_model.specs.declared.types.JType.{JType}
use Rattle.run_state.specs.Words.{Word, Ref}
use Rattle.run_state.specs.State.{Outside, live}
use Rattle.run_state.specs.State as state
use Rattle.run_state.specs.References.{element_type}
use Rattle.run_state.specs.Unwinding.{fresh_object, with_item, default_of}
use Rattle.run_state.specs.Copying.{as_place}
use Rattle.run_state.specs.Objects.{fresh_array, making_array}
use Rattle.machine_heap.specs.declared.item.Item.{Item}
use Rattle.machine_words.specs.Tops.{as_int}
use Rattle.machine_frames.specs.declared.frame.Frame.{Frame}
use Rattle.machine_frames.specs.declared.flow.Fault.TheVariants as fault
use Rattle.machine_frames.specs.declared.flow.Flow.TheVariants as flow
use Rattle.linked_code.specs.declared.op.Op.TheVariants as op
use Rattle.linked_code.specs.declared.program.Program.{Program}
use Rattle.linked_code.specs.World.{World, tags_of}
use Rattle.linked_code.specs.Linked.{MakesArray, OfNumbers, OfReferences}
use Rattle.linked_code.specs.Numbered.{class_at, type_at}
use Rattle.machine.specs.declared.state.Areas.{Areas}
use Rattle.machine.specs.Shown.{item_of, areas_of}
use Rattle.machine.specs.Acted.{acted, Acts}
use Rattle.machine.proofs.KindTops.{int_on, int_off}
use Rattle.machine.proofs.Places.{led_next}
use Rattle.machine.proofs.Steps.{fresh_is, with_one_more}

module _ {T : Type 0} (none : T) (join : T → T → T) (p : Program T) (f : Frame T) (a : Areas T) where
  -- an item more, as the definitions have the areas
  item_more : (w : World T) (b : Areas T) (x : Item T) (y : state.Item T) → b ≡ record a { heap = a.heap ++ x ∷ [] } → item_of w x ≡ y → areas_of w b ≡ with_item (areas_of w a) y
  item_more w b x y e is = ap (areas_of w) e ∙ with_one_more none join w a (a.heap ++ x ∷ []) x refl ∙ ap (with_item (areas_of w a)) is

  place_is : (w : World T) (at : ℕ) → at ≡ length a.heap → length (areas_of w a).heap ≡ at
  place_is w at e = length-map a.heap (item_of w) ∙ sym e

  pub make_object : (class at : ℕ) (x : Item T) (g : Frame T) (b : Areas T) → x ≡ record { ty = (class_at p class).ty; own = none; cells = (class_at p class).fresh } → at ≡ length a.heap
      → g ≡ record f { next = f.next + 1; stack = Ref at ∷ f.stack } → b ≡ record a { heap = a.heap ++ x ∷ [] } → Acts none join p (op.New class) f a flow.Next g b
  make_object class at x g b item here is now = record {
    by = λ w i o below links h.
        let y = fresh_object (tags_of none join w) w.looks (w.class class) in
        ap (λ x. acted none join w o below x f a) h
        ∙ led_next none join w o below f g b (with_item (areas_of w a) y) (Ref (length (areas_of w a).heap) ∷ f.stack) (Ref at ∷ f.stack)
        (ap (λ n. Ref n ∷ f.stack) (place_is w at here))
        (item_more w b x y now (fresh_is none join w (w.class class) (class_at p class) x (links.classes class) item)) is;
  }

  module _ (ty : ℕ) where
    arrays : (w : World T) (o : Outside) (below : List (state.Frame T)) → List (Word T) → state.State T
    arrays w o below st = making_array (tags_of none join w) w.looks o (areas_of w a) (w.method f.method) f.next f.locals below (w.ty ty) st

    makes : (w : World T) (o : Outside) (below : List (state.Frame T)) (i : Insn) → MakesArray i (w.ty ty) → acted none join w o below i f a ≡ arrays w o below f.stack
    unfolding arrays
    makes w o below i (OfNumbers number e t) =
        ap (λ x. acted none join w o below x f a) e
        ∙ ap (λ (j : JType). making_array (tags_of none join w) w.looks o (areas_of w a) (w.method f.method) f.next f.locals below j f.stack) t
    makes w o below i (OfReferences q e t) =
        ap (λ x. acted none join w o below x f a) e
        ∙ ap (λ (j : JType). making_array (tags_of none join w) w.looks o (areas_of w a) (w.method f.method) f.next f.locals below j f.stack) t

    pub array_of_nothing : as_int (slice_get f.stack 0) ≡ None → Acts none join p (op.NewArray ty) f a flow.Stuck f a
    unfolding arrays
    array_of_nothing e = record {
      by = λ w i o below links h. makes w o below i h ∙ int_off o (areas_of w a) f.stack _ e;
    }

    pub array_below_none : (v : ℤ) (t : T) → as_int (slice_get f.stack 0) ≡ Some (v, t) → as_place v ≡ None → Acts none join p (op.NewArray ty) f a (flow.Throws fault.NegativeSize) f a
    unfolding arrays
    array_below_none (pos n) t e below_none = cc
    array_below_none (negsuc n) t e below_none = record {
      by = λ w i o below links h. makes w o below i h ∙ int_on o (areas_of w a) f.stack _ (negsuc n) t e;
    }

    make_sized : (n : ℕ) (t : T) (at : ℕ) (x : Item T) (g : Frame T) (b : Areas T) → as_int (slice_get f.stack 0) ≡ Some (pos n, t)
        → x ≡ record { ty = ty; own = none; cells = replicate n (type_at p (type_at p ty).element).default } → at ≡ length a.heap
        → g ≡ record f { next = f.next + 1; stack = Ref at ∷ drop 1 f.stack } → b ≡ record a { heap = a.heap ++ x ∷ [] } → Acts none join p (op.NewArray ty) f a flow.Next g b
    unfolding arrays
    make_sized n t at x g b e item here is now = record {
      by = λ w i o below links h.
          let y = fresh_array (tags_of none join w) (w.ty ty) n in
          let d : default_of none (element_type (w.ty ty)) ≡ (type_at p (type_at p ty).element).default =
          ap (default_of none) (links.types ty).element ∙ (links.types (type_at p ty).element).default in
          makes w o below i h
          ∙ int_on o (areas_of w a) f.stack _ (pos n) t e
          ∙ led_next none join w o below f g b (with_item (areas_of w a) y) (Ref (length (areas_of w a).heap) ∷ drop 1 f.stack) (Ref at ∷ drop 1 f.stack)
          (ap (λ n. Ref n ∷ drop 1 f.stack) (place_is w at here))
          (item_more w b x y now (ap (item_of w) item ∙ ap (λ (c : Word T). record { ty = w.ty ty; own = none; cells = replicate n c }) (sym d))) is;
    }

    pub make_array : (v : ℤ) (n : ℕ) (t : T) (at : ℕ) (x : Item T) (g : Frame T) (b : Areas T) → as_int (slice_get f.stack 0) ≡ Some (v, t) → as_place v ≡ Some n
        → x ≡ record { ty = ty; own = none; cells = replicate n (type_at p (type_at p ty).element).default } → at ≡ length a.heap
        → g ≡ record f { next = f.next + 1; stack = Ref at ∷ drop 1 f.stack } → b ≡ record a { heap = a.heap ++ x ∷ [] } → Acts none join p (op.NewArray ty) f a flow.Next g b
    make_array (pos m) n t at x g b e size item here is now =
        let same : m ≡ n = cc in
        make_sized n t at x g b (e ∙ ap (λ k. Some (pos k, t)) same) item here is now
    make_array (negsuc m) n t at x g b e size item here is now = cc
