-- A step keeps the image under a map of tags, whatever was reported before.
use Rattle.std.proofs.Common.{◌≡◌, ℕ, zero, suc, ◌+◌, ℤ, List, [], ◌∷◌, map, Option, Some, None, refl, sym, ap, ◌∙◌}
use Rattle.std.specs.Prelude.{slice_get, is_none}
use Rattle.std.specs.Int.{w32, int_wrapping_add}
use Rattle.std.proofs.lemmas.List.{map-set}
use Rattle.std.proofs.lemmas.Option.{slice_get-map}
use Rattle.class_model.specs.declared.types.MethodRef.{MethodRef}
use Rattle.class_model.specs.declared.insn.Kind.{Kind}
use Rattle.class_model.specs.declared.insn.Width.{Width}
use Rattle.class_model.specs.declared.insn.InvokeKind.{InvokeKind}
use Rattle.class_model.specs.declared.insn.InvokeKind.TheVariants as invoke
use Rattle.class_model.specs.declared.insn.Insn.{Insn}
use Rattle.class_model.specs.declared.insn.Insn.TheVariants as insn
use Rattle.run_state.specs.declared.report.Report.{Report}
use Rattle.run_state.specs.Numbers.{number_of, shifted, negated, converted, taken_width, given_width, compared}
use Rattle.run_state.specs.Words.{Word, Num, Long, Half, Ref, pushed, shuffled}
use Rattle.run_state.specs.State.{Method, Frame, Item, Areas, Phase, Begins, Makes, Calls, Waits, Outside, Ending, Running, Returned, Exit, Uncaught, InitFailed, Stuck, State, live, rooted}
use Rattle.run_state.specs.Looks.{Looks}
use Rattle.run_state.specs.Tags.{Tags}
use Rattle.run_state.specs.Operands.{either, number, place_of, same_place, agrees}
use Rattle.run_state.specs.Marks.{tags_of}
use Rattle.run_state.specs.Unwinding.{arithmetic_exception}
use Rattle.run_state.specs.Objects.{primitive_array, array_of}
use Rattle.run_state.specs.Calls.{said, entered}
use Rattle.run_state.specs.Step.{invoking, returning, act, starts_of, needs_of, to_start, newest, empty_array, calling_main, root_step, turn, going, step, run}
use Rattle.run_state.specs.Erasure.{word_of, words_of, item_of, frames_of, areas_of, quiet, without_reports, image, Maps}
use Rattle.run_state.proofs.ErasedWords.{map_id_option, pushed_words, stored_words, number_word, place_word, shuffled_map}
use Rattle.run_state.proofs.ErasedOperands.{loud, said_loud, beginning_image, some_image, int_image, long_image, number_image, ref_image, kind_image, is_int_image, of_kind_image, args_image, dividing_image, entered_image, left_image}
use Rattle.run_state.proofs.ErasedCopying.{throws_image}
use Rattle.run_state.proofs.ErasedCalls.{given_back_image, called_image}
use Rattle.run_state.proofs.ErasedObjects.{literal_image, getting_image, putting_image, getting_static_image, putting_static_image, making_image, making_array_image, nesting_image, measuring_image, loading_image, storing_image, throwing_image, casting_image, asking_image, calling_virtual_image, calling_interface_image, calling_special_image}
use Rattle.run_state.proofs.ErasedHeap.{fresh_item, with_item_areas}

newest_map : {A B : Type 0} (f : Item A → Item B) (hp : List (Item A)) (at : ℕ) → newest (map f hp) at ≡ newest hp at
newest_map f [] at = refl
newest_map f (x ∷ []) at = refl
newest_map f (x ∷ y ∷ xs) at = newest_map f (y ∷ xs) (at + 1)

module _ {T U : Type 0} (M : Tags T) (N : Tags U) (h : T → U) (maps : Maps M N h) (L : Looks) where
  module _ (o : Outside) (rs : List Report) (ar : Areas T) (m : Method) (pc : ℕ) (ls st : List (Word T)) (fs : List (Frame T)) where
    -- the next instruction, with a stack
    next_image : (st1 : List (Word T)) (st2 : List (Word U)) → words_of h st1 ≡ st2 → image h (live o ar m (pc + 1) ls st1 fs) ≡ without_reports (live (loud rs o) (areas_of h ar) m (pc + 1) (words_of h ls) st2 (frames_of h fs))
    next_image st1 st2 e = ap (λ l. live (quiet o) (areas_of h ar) m (pc + 1) (words_of h ls) l (frames_of h fs)) e

    -- the next instruction, with a number on the stack
    result_image : (w : Width) (v : ℤ) (t : T) (u : U) (rest : List (Word T)) → h t ≡ u → image h (live o ar m (pc + 1) ls (pushed (number w v t) rest) fs) ≡ without_reports (live (loud rs o) (areas_of h ar) m (pc + 1) (words_of h ls) (pushed (number w v u) (words_of h rest)) (frames_of h fs))
    result_image w v t u rest e =
        next_image (pushed (number w v t) rest) (pushed (number w v u) (words_of h rest))
        (pushed_words h (number w v t) rest ∙ ap (λ x. pushed x (words_of h rest)) (number_word h w v t ∙ ap (number w v) e))

    invoking_image : (k : InvokeKind) (ref : MethodRef) → image h (invoking M L k ref o ar m pc ls st fs) ≡ without_reports (invoking N L k ref (loud rs o) (areas_of h ar) m pc (words_of h ls) (words_of h st) (frames_of h fs))
    invoking_image invoke.Static ref =
        some_image h o rs ar (λ n. n) (L.method ref) (L.method ref) _ _ (map_id_option (L.method ref)) (λ callee.
        args_image h o rs ar callee.params st [] _ _ (λ args rest. called_image M N h maps L o rs ar callee args m pc ls rest fs))
    invoking_image invoke.Special ref = calling_special_image M N h maps L o rs ar m pc ls fs ref st
    invoking_image invoke.Virtual ref = calling_virtual_image M N h maps L o rs ar m pc ls fs ref st
    invoking_image invoke.Interface ref = calling_interface_image M N h maps L o rs ar m pc ls fs ref st

    returning_image : (k : Option Kind) → image h (returning M L k o ar m st fs) ≡ without_reports (returning N L k (loud rs o) (areas_of h ar) m (words_of h st) (frames_of h fs))
    returning_image None = left_image h o rs ar fs
    returning_image (Some k) = kind_image h o rs ar k st _ _ (λ w rest. given_back_image M N h maps L o rs ar m w fs)

    act_image : (x : Option Insn) → image h (act M L x o ar m pc ls st fs) ≡ without_reports (act N L x (loud rs o) (areas_of h ar) m pc (words_of h ls) (words_of h st) (frames_of h fs))
    act_image None = refl
    act_image (Some insn.Nop) = refl
    act_image (Some insn.PushNull) = refl
    act_image (Some (insn.PushInt v)) = next_image (Num v M.none ∷ st) _ (ap (λ t. Num v t ∷ words_of h st) maps.at_none)
    act_image (Some (insn.PushLong v)) = next_image (Half ∷ Long v M.none ∷ st) _ (ap (λ t. Half ∷ Long v t ∷ words_of h st) maps.at_none)
    act_image (Some (insn.Load k i)) =
        some_image h o rs ar (word_of h) (slice_get ls i) (slice_get (words_of h ls) i) _ _ (sym (slice_get-map (word_of h) ls i)) (λ w.
        of_kind_image h o rs ar k w _ _ (λ x. next_image _ _ (pushed_words h x st)))
    act_image (Some (insn.Store k i)) =
        kind_image h o rs ar k st _ _ (λ w rest. ap (λ l. live (quiet o) (areas_of h ar) m (pc + 1) l (words_of h rest) (frames_of h fs)) (stored_words h ls i w))
    act_image (Some (insn.Stack op)) =
        some_image h o rs ar (words_of h) (shuffled op st) (shuffled op (words_of h st)) _ _ (shuffled_map (word_of h) op st) (λ rest. refl)
    act_image (Some (insn.Bin w op)) =
        number_image h o rs ar w st _ _ (λ b u st1. number_image h o rs ar w st1 _ _ (λ a t rest.
        dividing_image h o rs ar op b _ _ _ _ (throws_image M N h maps L o rs ar arithmetic_exception fs m pc ls)
        (result_image w (number_of w op a b) (M.join t u) (N.join (h t) (h u)) rest (maps.at_join t u))))
    act_image (Some (insn.Shift w op)) =
        int_image h o rs ar st _ _ (λ b u st1. number_image h o rs ar w st1 _ _ (λ a t rest.
        result_image w (shifted w op a b) (M.join t u) (N.join (h t) (h u)) rest (maps.at_join t u)))
    act_image (Some (insn.Neg w)) = number_image h o rs ar w st _ _ (λ a t rest. result_image w (negated w a) t (h t) rest refl)
    act_image (Some (insn.Iinc i by)) =
        some_image h o rs ar (word_of h) (slice_get ls i) (slice_get (words_of h ls) i) _ _ (sym (slice_get-map (word_of h) ls i)) (λ w.
        is_int_image h o rs ar w _ _ (λ v t. ap (λ l. live (quiet o) (areas_of h ar) m (pc + 1) l (words_of h st) (frames_of h fs)) (map-set (word_of h) ls i (Num (int_wrapping_add w32 v by) t))))
    act_image (Some (insn.Convert c)) =
        number_image h o rs ar (taken_width c) st _ _ (λ a t rest. result_image (given_width c) (converted c a) t (h t) rest refl)
    act_image (Some insn.Lcmp) =
        long_image h o rs ar st _ _ (λ b u st1. long_image h o rs ar st1 _ _ (λ a t rest.
        next_image (Num (compared a b) (M.join t u) ∷ rest) _ (ap (λ x. Num (compared a b) x ∷ words_of h rest) (maps.at_join t u))))
    act_image (Some (insn.If c target)) = int_image h o rs ar st _ _ (λ v t rest. refl)
    act_image (Some (insn.IfInt c target)) = int_image h o rs ar st _ _ (λ b u st1. int_image h o rs ar st1 _ _ (λ a t rest. refl))
    act_image (Some (insn.IfRef same target)) =
        ref_image h o rs ar st _ _ (λ y st1. ref_image h o rs ar st1 _ _ (λ x rest.
        ap (λ b. live (quiet o) (areas_of h ar) m (either (agrees same b) target (pc + 1)) (words_of h ls) (words_of h rest) (frames_of h fs))
        (ap (λ p. same_place p (place_of y)) (sym (place_word h x)) ∙ ap (same_place (place_of (word_of h x))) (sym (place_word h y)))))
    act_image (Some (insn.IfNull null target)) =
        ref_image h o rs ar st _ _ (λ x rest.
        ap (λ p. live (quiet o) (areas_of h ar) m (either (agrees null (is_none p)) target (pc + 1)) (words_of h ls) (words_of h rest) (frames_of h fs)) (sym (place_word h x)))
    act_image (Some (insn.Goto target)) = refl
    act_image (Some (insn.TableSwitch low default targets)) = int_image h o rs ar st _ _ (λ v t rest. refl)
    act_image (Some (insn.LookupSwitch default rows)) = int_image h o rs ar st _ _ (λ v t rest. refl)
    act_image (Some (insn.Return k)) = returning_image k
    act_image (Some (insn.Invoke k ref)) = invoking_image k ref
    act_image (Some (insn.PushString text)) = literal_image M N h maps L o rs ar m pc ls fs text st
    act_image (Some (insn.GetStatic f)) = getting_static_image M N h maps L o rs ar m pc ls fs f st
    act_image (Some (insn.PutStatic f)) = putting_static_image M N h maps L o rs ar m pc ls fs f st
    act_image (Some (insn.GetField f)) = getting_image M N h maps L o rs ar m pc ls fs f st
    act_image (Some (insn.PutField f)) = putting_image M N h maps L o rs ar m pc ls fs f st
    act_image (Some (insn.New c)) = making_image M N h maps L o rs ar m pc ls fs _ _ st (fresh_item M N h maps L c)
    act_image (Some (insn.NewArray p)) = making_array_image M N h maps L o rs ar m pc ls fs (primitive_array p) st
    act_image (Some (insn.ANewArray ty)) = making_array_image M N h maps L o rs ar m pc ls fs (array_of ty) st
    act_image (Some (insn.MultiNewArray ty n)) = nesting_image M N h maps L o rs ar m pc ls fs ty n st
    act_image (Some insn.ArrayLength) = measuring_image M N h maps L o rs ar m pc ls fs st
    act_image (Some (insn.ArrayLoad e)) = loading_image M N h maps L o rs ar m pc ls fs st
    act_image (Some (insn.ArrayStore e)) = storing_image M N h maps L o rs ar m pc ls fs e st
    act_image (Some insn.Athrow) = throwing_image M N h maps L o rs ar m pc ls fs st
    act_image (Some (insn.CheckCast ty)) = casting_image M N h maps L o rs ar m pc ls fs ty st
    act_image (Some (insn.InstanceOf ty)) = asking_image M N h maps L o rs ar m pc ls fs ty st

  calling_main_image : (o : Outside) (rs : List Report) (ar : Areas T) (main : Method) (args : List (Word T)) → image h (calling_main M L main args o ar) ≡ without_reports (calling_main N L main (words_of h args) (loud rs o) (areas_of h ar))
  calling_main_image o rs ar main args =
      let ys = M.entered main (tags_of M L ar.heap args) in
      let xs = N.entered main (tags_of N L (areas_of h ar).heap (words_of h args)) in
      entered_image h (said o ys) (said (loud rs o) xs).reports ar main args []
      ∙ ap (λ q. without_reports (entered q (areas_of h ar) main (words_of h args) [])) (sym (said_loud o rs xs ys))

  root_step_image : (p : Phase) (o : Outside) (rs : List Report) (ar : Areas T) → image h (root_step M L p o ar) ≡ without_reports (root_step N L p (loud rs o) (areas_of h ar))
  root_step_image Begins o rs ar = beginning_image h (record o { phase = Makes }) rs ar (to_start o.begun (starts_of L L.main)) [] _ _ refl
  root_step_image Makes o rs ar =
      ap (λ q. rooted (quiet (record o { phase = Calls })) q)
      (with_item_areas M N h maps ar (empty_array M) (empty_array N) (ap (λ t. record (empty_array N) { own = t }) maps.at_none))
  root_step_image Calls o rs ar =
      let now = record o { phase = Waits } in
      some_image h o rs ar (λ n. n) L.main L.main _ _ (map_id_option L.main) (λ main.
      calling_main_image now rs ar main (Ref (newest ar.heap 0) ∷ [])
      ∙ ap (λ a. without_reports (calling_main N L main (Ref a ∷ []) (loud rs now) (areas_of h ar))) (sym (newest_map (item_of h) ar.heap 0)))
  root_step_image Waits o rs ar = refl

  turn_image : (fs : List (Frame T)) (o : Outside) (rs : List Report) (ar : Areas T) → image h (turn M L fs o ar) ≡ without_reports (turn N L (frames_of h fs) (loud rs o) (areas_of h ar))
  turn_image [] o rs ar = root_step_image o.phase o rs ar
  turn_image (f ∷ fs) o rs ar =
      beginning_image h o rs ar (to_start o.begun (needs_of L (slice_get f.method.code f.next))) (f ∷ fs) _ _
      (act_image o rs ar f.method f.next f.locals f.stack fs (slice_get f.method.code f.next))

  -- the image, with reports
  abbrev heard : List Report → State T → State U
  heard rs s = record (image h s) { outside = loud rs s.outside }

  going_image : (e : Ending) (s : State T) (rs : List Report) → image h (going M L e s) ≡ without_reports (going N L e (heard rs s))
  going_image Running s rs = turn_image s.frames s.outside rs s.areas
  going_image Returned s rs = refl
  going_image (Exit k) s rs = refl
  going_image (Uncaught c) s rs = refl
  going_image (InitFailed k c) s rs = refl
  going_image Stuck s rs = refl

  -- erasure, of whole runs
  pub run_image : (n : ℕ) (s : State T) (rs : List Report) → image h (run M L n s) ≡ without_reports (run N L n (heard rs s))
  run_image zero s rs = refl
  run_image (suc n) s rs =
      let next = step N L (heard rs s) in
      run_image n (step M L s) next.outside.reports
      ∙ ap (λ q. without_reports (run N L n (record q { outside = loud next.outside.reports q.outside }))) (going_image s.ending s rs)
