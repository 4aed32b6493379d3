-- Calls and returns under a map of tags, whatever was reported before.
use Rattle.std.proofs.Common.{◌≡◌, ℕ, ◌+◌, pos, negsuc, List, [], ◌∷◌, Option, Some, None, refl, sym, ap, ◌∙◌}
use Rattle.run_state.specs.declared.report.Report.{Report}
use Rattle.run_state.specs.Natives.{Native}
use Rattle.run_state.specs.Natives as native
use Rattle.run_state.specs.Words.{Word, Num, pushed}
use Rattle.run_state.specs.State.{Method, Frame, Item, Areas, Outside, live}
use Rattle.run_state.specs.Looks.{Looks}
use Rattle.run_state.specs.Tags.{Tags}
use Rattle.run_state.specs.Marks.{tags_of, mark_number, mark_heap}
use Rattle.run_state.specs.Calls.{narrowed, narrowed_result, said, reading, natively, carried_out, called, given_back}
use Rattle.run_state.specs.Erasure.{word_of, words_of, frames_of, areas_of, quiet, without_reports, image, Maps}
use Rattle.run_state.proofs.ErasedWords.{pushed_words, narrowed_word}
use Rattle.run_state.proofs.ErasedOperands.{loud, said_loud, int_image, entered_image}
use Rattle.run_state.proofs.ErasedCopying.{copying_image}
use Rattle.run_state.proofs.ErasedHeap.{mark_number_word, mark_heap_image}

module _ {T U : Type 0} (M : Tags T) (N : Tags U) (h : T → U) (maps : Maps M N h) (L : Looks) where
  module _ (o : Outside) (rs : List Report) (ar : Areas T) where
    pub given_back_image : (m : Method) (w : Word T) (fs : List (Frame T)) → image h (given_back M L m w o ar fs) ≡ without_reports (given_back N L m (word_of h w) (loud rs o) (areas_of h ar) (frames_of h fs))
    given_back_image m w [] = refl
    given_back_image m w (f ∷ fs) =
        let to = λ (hp : List (Item U)) (st : List (Word U)). live (quiet o) (record (areas_of h ar) { heap = hp }) f.method f.next (words_of h f.locals) st (frames_of h fs) in
        let x = narrowed (narrowed_result m.desc.result) w in
        ap (λ hp. to hp (words_of h (pushed (mark_number M m x) f.stack))) (mark_heap_image M N h maps L m ar.heap w)
        ∙ ap (to (mark_heap N L m (areas_of h ar).heap (word_of h w)))
        (pushed_words h (mark_number M m x) f.stack
        ∙ ap (λ y. pushed y (words_of h f.stack)) (mark_number_word M N h maps m x ∙ ap (mark_number N m) (narrowed_word h (narrowed_result m.desc.result) w)))

    reading_image : (input : List ℕ) (callee m : Method) (pc : ℕ) (ls rest : List (Word T)) (fs : List (Frame T)) → image h (reading M L input callee o ar m pc ls rest fs) ≡ without_reports (reading N L input callee (loud rs o) (areas_of h ar) m pc (words_of h ls) (words_of h rest) (frames_of h fs))
    reading_image [] callee m pc ls rest fs =
        ap (λ t. live (quiet o) (areas_of h ar) m (pc + 1) (words_of h ls) (Num (negsuc 0) t ∷ words_of h rest) (frames_of h fs)) (maps.at_marked callee M.none ∙ ap (N.marked callee) maps.at_none)
    reading_image (b ∷ bs) callee m pc ls rest fs =
        ap (λ t. live (quiet (record o { input = bs })) (areas_of h ar) m (pc + 1) (words_of h ls) (Num (pos b) t ∷ words_of h rest) (frames_of h fs)) (maps.at_marked callee M.none ∙ ap (N.marked callee) maps.at_none)

    natively_image : (n : Native) (callee : Method) (args : List (Word T)) (m : Method) (pc : ℕ) (ls rest : List (Word T)) (fs : List (Frame T)) → image h (natively M L n callee args o ar m pc ls rest fs) ≡ without_reports (natively N L n callee (words_of h args) (loud rs o) (areas_of h ar) m pc (words_of h ls) (words_of h rest) (frames_of h fs))
    natively_image native.Read callee args m pc ls rest fs = reading_image o.input callee m pc ls rest fs
    natively_image native.Write callee args m pc ls rest fs = int_image h o rs ar args _ _ (λ v t more. refl)
    natively_image native.Exit callee args m pc ls rest fs = int_image h o rs ar args _ _ (λ v t more. refl)
    natively_image native.ArrayCopy callee args m pc ls rest fs = copying_image M N h maps L o rs ar m pc ls rest fs args
    natively_image native.Report callee args m pc ls rest fs =
        int_image h o rs ar args _ _ (λ a t args1. int_image h o rs ar args1 _ _ (λ b u args2. int_image h o rs ar args2 _ _ (λ c v more. refl)))

    carried_out_image : (n : Option Native) (callee : Method) (args : List (Word T)) (m : Method) (pc : ℕ) (ls rest : List (Word T)) (fs : List (Frame T)) → image h (carried_out M L n callee args o ar m pc ls rest fs) ≡ without_reports (carried_out N L n callee (words_of h args) (loud rs o) (areas_of h ar) m pc (words_of h ls) (words_of h rest) (frames_of h fs))
    carried_out_image None callee args m pc ls rest fs = entered_image h o rs ar callee args (record { method = m; next = pc + 1; locals = ls; stack = rest } ∷ fs)
    carried_out_image (Some n) callee args m pc ls rest fs = natively_image n callee args m pc ls rest fs

  pub called_image : (o : Outside) (rs : List Report) (ar : Areas T) (callee : Method) (args : List (Word T)) (m : Method) (pc : ℕ) (ls rest : List (Word T)) (fs : List (Frame T)) → image h (called M L callee args o ar m pc ls rest fs) ≡ without_reports (called N L callee (words_of h args) (loud rs o) (areas_of h ar) m pc (words_of h ls) (words_of h rest) (frames_of h fs))
  called_image o rs ar callee args m pc ls rest fs =
      let ys = M.entered callee (tags_of M L ar.heap args) in
      let xs = N.entered callee (tags_of N L (areas_of h ar).heap (words_of h args)) in
      carried_out_image (said o ys) (said (loud rs o) xs).reports ar callee.native callee args m pc ls rest fs
      ∙ ap (λ q. without_reports (carried_out N L callee.native callee (words_of h args) q (areas_of h ar) m pc (words_of h ls) (words_of h rest) (frames_of h fs))) (sym (said_loud o rs xs ys))
