-- Frames that are put on top, and taken off.
use Rattle.std.proofs.Common.{◌≡◌, ℕ, ◌+◌, ◌-◌, ◌<◌, ◌≤◌, get_or, List, [], ◌∷◌, ◌++◌, drop, length, reverse, refl, ap, sym, ◌∙◌, append_assoc, drop-drop, arith}
use Rattle.std.proofs.lemmas.List.{reverse-append, length-append, drop_at, drop_more}
use Rattle.machine_frames.specs.declared.frame.Frame.{Frame}
use Rattle.linked_code.specs.declared.program.Method.{Method}
use Rattle.linked_code.specs.declared.program.Program.{Program}
use Rattle.linked_code.specs.Numbered.{method_at}
use Rattle.machine.specs.declared.state.Machine.{Machine}
use Rattle.machine.specs.Beginning.{waiting, with_blanks, with_class, with_classes}
use Rattle.machine.specs.Called.{blank}
use Rattle.machine.specs.Stacked.{Begins, BeginsWith, stacked}
use Rattle.std.specs.Prelude.{Option, Some, None, true}

module _ {A : Type 0} where
  pub laid_one : (fs rest b new init : List A) (u t : A) → fs ≡ rest ++ u ∷ [] → new ≡ b ++ t ∷ [] → fs ++ (t ∷ reverse b) ≡ init → rest ++ (u ∷ reverse new) ≡ init
  laid_one fs rest b new init u t split pushed h =
      ap (λ q. rest ++ (u ∷ q)) (ap reverse pushed ∙ reverse-append b (t ∷ []))
      ∙ sym (append_assoc rest (u ∷ []) (t ∷ reverse b))
      ∙ ap (λ q. q ++ (t ∷ reverse b)) (sym split)
      ∙ h

  pub taken_one : (b rest init : List A) (u t : A) (k : ℕ) → b ≡ rest ++ u ∷ [] → t ∷ reverse b ≡ drop k init → u ∷ reverse rest ≡ drop (k + 1) init
  taken_one b rest init u t k split h =
      ap (λ q. drop 1 (t ∷ q)) (sym (ap reverse split ∙ reverse-append rest (u ∷ [])))
      ∙ ap (drop 1) h
      ∙ drop-drop 1 k init

  pub taken_all : (fs rest : List A) (n : ℕ) → n ≡ length fs → drop n (fs ++ rest) ≡ rest
  taken_all fs rest n e = drop_at fs rest n (sym e)

-- there are as many frames to take off
pub laid_room : {A : Type 0} (fs below new : List A) (t u : A) (n : ℕ) → n ≡ length fs → u ∷ new ≡ fs ++ (t ∷ below) → n ≤ length new
laid_room {A} fs below new t u n e h =
    let long : length (u ∷ new) ≡ length (fs ++ (t ∷ below)) = ap length h in
    omega (arith, length-append fs (t ∷ below))

module _ {T : Type 0} (p : Program T) where
  pub blanks_over : (ns : List ℕ) (xs ys : List (Frame T)) → with_blanks p ns (xs ++ ys) ≡ with_blanks p ns xs ++ ys
  blanks_over [] xs ys = refl
  blanks_over (n ∷ ns) xs ys = blanks_over ns (blank n (method_at p n).locals ∷ xs) ys

  class_over : (o : Option ℕ) (xs ys : List ℕ) → with_class o (xs ++ ys) ≡ with_class o xs ++ ys
  class_over None xs ys = refl
  class_over (Some k) xs ys = refl

  pub classes_over : (ns xs ys : List ℕ) → with_classes p ns (xs ++ ys) ≡ with_classes p ns xs ++ ys
  classes_over [] xs ys = refl
  classes_over (n ∷ ns) xs ys = ap (with_class (method_at p n).begins) (classes_over ns xs ys) ∙ class_over (method_at p n).begins (with_classes p ns xs) ys

  blanks_there : (ns : List ℕ) (x : Frame T) (xs : List (Frame T)) → with_blanks p ns (x ∷ xs) ≡ [] → ⊥
  blanks_there [] x xs e = cc
  blanks_there (n ∷ ns) x xs e = blanks_there ns (blank n (method_at p n).locals) (x ∷ xs) e

  pub blanks_some : (ns : List ℕ) → (ns ≡ [] → ⊥) → with_blanks p ns [] ≡ [] → ⊥
  blanks_some [] h e = h refl
  blanks_some (n ∷ ns) h e = blanks_there ns (blank n (method_at p n).locals) [] e

  -- one frame more, from the last initializer on
  pub blank_next : (ns : List ℕ) (b j i k : ℕ) (m : Method) (fs new : List (Frame T)) (fr : Frame T) → b < length ns → j ≡ length ns - b → i ≡ length ns - 1 - b → k ≡ length ns - (b + 1) → fs ≡ with_blanks p (drop j ns) []
      → fr ≡ blank (get_or ns i 0) m.locals → m ≡ method_at p (get_or ns i 0) → new ≡ fs ++ fr ∷ [] → new ≡ with_blanks p (drop k ns) []
  blank_next ns b j i k m fs new fr below je ie ke so_far made is pushed =
      let here : i ≡ k = omega arith in
      let next : j ≡ k + 1 = omega arith in
      let within : k < length ns = omega arith in
      let n = get_or ns k 0 in
      let frame : fr ≡ blank n (method_at p n).locals = made ∙ ap (λ (q : Method). blank (get_or ns i 0) q.locals) is ∙ ap (λ q. blank (get_or ns q 0) (method_at p (get_or ns q 0)).locals) here in
      pushed
      ∙ ap (λ (q : List (Frame T)). q ++ fr ∷ []) (so_far ∙ ap (λ q. with_blanks p (drop q ns) []) next)
      ∙ ap (λ (q : Frame T). with_blanks p (drop (k + 1) ns) [] ++ q ∷ []) frame
      ∙ sym (blanks_over (drop (k + 1) ns) [] (blank n (method_at p n).locals ∷ []))
      ∙ ap (λ q. with_blanks p q []) (sym (drop_more ns k 0 within))

  -- what begins, from its frames and classes
  pub begins_with : (starts ws : List ℕ) (old new : Machine T) (frames : List (Frame T)) (classes : List ℕ) → ws ≡ waiting p old.begun starts → (ws ≡ [] → ⊥) → frames ≡ with_blanks p ws [] → classes ≡ with_classes p ws []
      → BeginsWith old new frames classes → Begins p starts old true new
  begins_with starts ws old new frames classes is some fr cl h =
      let all = waiting p old.begun starts in (
        λ e. some (is ∙ e),
        h.0 ∙ ap (λ (cs : List ℕ). cs ++ old.begun) (cl ∙ ap (λ ns. with_classes p ns []) is) ∙ sym (classes_over all [] old.begun),
        record {
          frames = h.1.frames ∙ ap (λ (fs : List (Frame T)). fs ++ stacked old) (fr ∙ ap (λ ns. with_blanks p ns []) is) ∙ sym (blanks_over all [] (stacked old));
          others = h.1.others;
        },
      )
