-- The rows of text constants.
use Rattle.std.proofs.Common.{◌≡◌, ℕ, ◌+◌, ◌<◌, List, [], ◌∷◌, ◌++◌, length, map, Option, Some, None, refl, ap, sym, ◌∙◌, subst, arith}
use Rattle.std.specs.Prelude.{Bool, true, false, ◌==◌, slice_get, slice_set, if◌then◌else◌}
use Rattle.std.specs.Cmp.Lexicographic.{same_text as told}
use Rattle.std.proofs.lemmas.Bool.{eq-eqb, eqb-true}
use Rattle.std.proofs.lemmas.List.{map-append, length-map, length-append}
use Rattle.lists.proofs.Units.{pointwise_self}
use Rattle.run_state.specs.Words.{Word, Ref}
use Rattle.run_state.specs.State.{Outside, live}
use Rattle.run_state.specs.State as state
use Rattle.run_state.specs.Texts.{same_text, string_name, class_type}
use Rattle.run_state.specs.Unwinding.{default_of, with_item}
use Rattle.run_state.specs.Objects.{literal_place, text_array, text_object, with_literal}
use Rattle.machine_heap.specs.declared.item.Item.{Item}
use Rattle.machine_frames.specs.declared.frame.Frame.{Frame}
use Rattle.machine_frames.specs.declared.flow.Flow.{Flow}
use Rattle.machine_frames.specs.declared.flow.Flow.TheVariants as flow
use Rattle.linked_code.specs.declared.op.Op.TheVariants as op
use Rattle.linked_code.specs.declared.program.Program.{Program}
use Rattle.linked_code.specs.World.{World, tags_of}
use Rattle.linked_code.specs.Numbered.{class_at}
use Rattle.linked_code.specs.Links.{Links}
use Rattle.machine.specs.declared.state.Areas.{Areas}
use Rattle.machine.specs.declared.state.Literal.{Literal}
use Rattle.machine.specs.Shown.{item_of, literal_of, areas_of}
use Rattle.machine.specs.Acted.{acted, Acts}
use Rattle.machine.specs.Placed.{Gives, characters, placed_by, with_literal_of}
use Rattle.machine.proofs.Choices.{some_there, none_there, given_some, given_none}
use Rattle.machine.proofs.Places.{led_next}

one_test : (a b : Bool) → (a ≡ true → b ≡ true) → (b ≡ true → a ≡ true) → a ≡ b
one_test true true f g = refl
one_test true false f g = sym (f refl)
one_test false true f g = g refl
one_test false false f g = refl

module _ {T : Type 0} (none : T) (join : T → T → T) (p : Program T) (n : ℕ) (f : Frame T) (a : Areas T) where
  pub gives_acts : (k : Flow) (g : Frame T) (b : Areas T) → Gives none join p n f a k g b → Acts none join p (op.PushText n) f a k g b
  gives_acts k g b h = record { by = λ w i o below links l. ap (λ x. acted none join w o below x f a) l.1 ∙ h.by w o below links l.0 }

  pub gives_reads : (class : ℕ) (k : Flow) (g : Frame T) (b : Areas T) → Gives none join p n f a k g b → Acts none join p (op.GetText class n) f a k g b
  gives_reads class k g b h = record {
    by = λ w i o below links l.
        ap (λ x. acted none join w o below x f a) l.1.1.is
        ∙ some_there o (areas_of w a) _ _ _ l.1.1.found
        ∙ h.by w o below links l.0;
  }

  -- a literal is found by the number of its text
  same_number : (w : World T) → Links none w p → n < length p.texts → (k : ℕ) → same_text (w.text k) (w.text n) ≡ (k == n)
  same_number w links there k =
      one_test (same_text (w.text k) (w.text n)) (k == n)
      (λ t. eq-eqb k n (sym (links.told n k there (sym (told (w.text k) (w.text n) (sym t))))))
      (λ t. subst (λ (q : ℕ). same_text (w.text k) (w.text q) ≡ true) (eqb-true k n t) (pointwise_self (w.text k)))

  place_is : (w : World T) → Links none w p → n < length p.texts → (ls : List Literal) → literal_place (map (literal_of w) ls) (w.text n) ≡ placed_by ls n
  place_is w links there [] = refl
  place_is w links there (l ∷ ls) =
      ap (λ (b : Bool). if b then Some l.place else literal_place (map (literal_of w) ls) (w.text n)) (same_number w links there l.text)
      ∙ ap (λ (o : Option ℕ). if l.text == n then Some l.place else o) (place_is w links there ls)

  pub gives_placed : (place : ℕ) (g : Frame T) → placed_by a.literals n ≡ Some place → g ≡ record f { next = f.next + 1; stack = Ref place ∷ f.stack } → Gives none join p n f a flow.Next g a
  gives_placed place g e is = record {
    by = λ w o below links there.
        given_some _ _ _ place (place_is w links there a.literals ∙ e)
        ∙ led_next none join w o below f g a (areas_of w a) (Ref place ∷ f.stack) (Ref place ∷ f.stack) refl refl is;
  }

  module _ (missing : placed_by a.literals n ≡ None) where
    pub gives_nothing : p.value ≡ None → Gives none join p n f a flow.Stuck f a
    gives_nothing e = record {
      by = λ w o below links there.
          given_none _ _ _ (place_is w links there a.literals ∙ missing)
          ∙ none_there o (areas_of w a) _ _ (links.value ∙ e);
    }

    pub gives_no_text : slice_get p.texts n ≡ None → Gives none join p n f a flow.Stuck f a
    gives_no_text e = record {
      by = λ w o below links there.
          let apart : ◌≡◌ {A = Option (List ℕ)} None (Some (w.text n)) = sym e ∙ links.texts n there in
          cc;
    }

    pub gives_new : (value : ℕ) (units : List ℕ) (array object : Item T) (g : Frame T) (b : Areas T) → p.value ≡ Some value → slice_get p.texts n ≡ Some units
        → array ≡ record { ty = p.chars; own = none; cells = characters none units }
        → object ≡ record { ty = (class_at p p.string).ty; own = none; cells = slice_set (class_at p p.string).fresh value (Ref (length a.heap)) }
        → g ≡ record f { next = f.next + 1; stack = Ref (length (a.heap ++ array ∷ [])) ∷ f.stack } → b ≡ with_literal_of a array object n
        → Gives none join p n f a flow.Next g b
    gives_new value units array object g b at text is_array is_object is now = record {
      by = λ w o below links there.
          let M = tags_of none join w in
          let ar = areas_of w a in
          let c = class_at p p.string in
          let k = links.classes p.string in
          let chars = text_array M (w.text n) in
          let string = text_object M w.looks value (length ar.heap) in
          let long : length a.heap ≡ length ar.heap = sym (length-map a.heap (item_of w)) in
          let both : ◌≡◌ {A = Option (List ℕ)} (Some units) (Some (w.text n)) = sym text ∙ links.texts n there in
          let same : units ≡ w.text n = cc in
          let first : item_of w array ≡ chars =
          ap (item_of w) is_array
          ∙ ap (λ us. record { ty = w.ty p.chars; own = none; cells = characters none us }) same
          ∙ ap (λ t. record { ty = t; own = none; cells = characters none (w.text n) }) (sym links.chars) in
          let second : item_of w object ≡ string =
          ap (item_of w) is_object
          ∙ ap (λ t. record { ty = t; own = none; cells = slice_set c.fresh value (Ref (length a.heap)) }) (sym k.ty)
          ∙ ap (λ (cells : List (Word T)). record { ty = class_type (w.class p.string); own = none; cells = slice_set cells value (Ref (length a.heap)) }) (sym k.fresh)
          ∙ ap (λ (q : List ℕ). record { ty = class_type q; own = none; cells = slice_set (map (default_of none) (w.looks.fields q)) value (Ref (length a.heap)) }) (sym links.string)
          ∙ ap (λ q. record { ty = class_type string_name; own = none; cells = slice_set (map (default_of none) (w.looks.fields string_name)) value (Ref q) }) long in
          let heap : map (item_of w) ((a.heap ++ array ∷ []) ++ object ∷ []) ≡ (ar.heap ++ chars ∷ []) ++ string ∷ [] =
          map-append (item_of w) (a.heap ++ array ∷ []) (object ∷ [])
          ∙ ap (λ (h : List (state.Item T)). h ++ item_of w object ∷ []) (map-append (item_of w) a.heap (array ∷ []))
          ∙ ap (λ (x : state.Item T). (ar.heap ++ x ∷ []) ++ item_of w object ∷ []) first
          ∙ ap (λ (x : state.Item T). (ar.heap ++ chars ∷ []) ++ x ∷ []) second in
          let one : length (a.heap ++ array ∷ []) ≡ length a.heap + 1 = omega (arith, length-append a.heap (array ∷ [])) in
          let place : length (a.heap ++ array ∷ []) ≡ length (ar.heap ++ chars ∷ []) = omega (arith, one, long, length-append ar.heap (chars ∷ [])) in
          let literals : map (literal_of w) (with_literal_of a array object n).literals ≡ ar.literals ++ record { text = w.text n; place = length (ar.heap ++ chars ∷ []) } ∷ [] =
          map-append (literal_of w) a.literals (record { text = n; place = length (a.heap ++ array ∷ []) } ∷ [])
          ∙ ap (λ q. ar.literals ++ record { text = w.text n; place = q } ∷ []) place in
          given_none _ _ _ (place_is w links there a.literals ∙ missing)
          ∙ some_there o ar _ _ value (links.value ∙ at)
          ∙ led_next none join w o below f g b (with_literal (with_item (with_item ar chars) string) (w.text n) (length (ar.heap ++ chars ∷ []))) (Ref (length (ar.heap ++ chars ∷ [])) ∷ f.stack) (Ref (length (a.heap ++ array ∷ [])) ∷ f.stack)
          (ap (λ q. Ref q ∷ f.stack) (sym place))
          (ap (areas_of w) now
          ∙ ap (λ (h : List (state.Item T)). record { heap = h; statics = a.statics; literals = map (literal_of w) (with_literal_of a array object n).literals }) heap
          ∙ ap (λ (ls : List state.Literal). record { heap = (ar.heap ++ chars ∷ []) ++ string ∷ []; statics = a.statics; literals = ls }) literals)
          is;
    }
