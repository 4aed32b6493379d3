-- The topmost words of a stack, moved into locals.
use Rattle.std.proofs.Common.{◌≡◌, ℕ, zero, suc, ◌+◌, ◌-◌, ◌<◌, ◌≤◌, List, [], ◌∷◌, ◌++◌, length, take, drop, reverse, refl, ap, sym, ◌∙◌, append_assoc, arith}
use Rattle.std.specs.Prelude.{Option, Some, None, slice_get, slice_set}
use Rattle.std.proofs.lemmas.List.{reverse-append}
use Rattle.run_state.specs.Words.{Word}
use Rattle.run_state.specs.State.{Areas, Outside, State}
use Rattle.run_state.specs.Operands.{stuck, with_args}

module _ {A : Type 0} where
  pub front : (st : List A) (w : A) (k : ℕ) → slice_get st k ≡ Some w → take (suc k) st ≡ take k st ++ w ∷ []
  front [] w k e = cc
  front (x ∷ st) w zero e = let h : x ≡ w = cc in ap (λ q. q ∷ []) h
  front (x ∷ st) w (suc k) e = ap (λ q. x ∷ q) (front st w k e)

  pub none_within : (st : List A) (k : ℕ) (o : Option A) (x : A) → k < length st → slice_get st k ≡ None → slice_get st k ≡ Some x
  none_within [] k o x l e = absurd (omega arith)
  none_within (y ∷ st) zero o x l e = cc
  none_within (y ∷ st) (suc k) o x l e = none_within st k o x (omega arith) e

  set_last : (ls : List A) (tail : List A) (k : ℕ) (w : A) → suc k ≤ length ls → slice_set (take (suc k) ls ++ tail) k w ≡ take k ls ++ w ∷ tail
  set_last [] tail k w l = absurd (omega arith)
  set_last (x ∷ ls) tail zero w l = refl
  set_last (x ∷ ls) tail (suc k) w l = ap (λ q. x ∷ q) (set_last ls tail k w (omega arith))

  -- one word more, in front of those before
  pub places_one : (st ls tail was is : List A) (w : A) (k j n left at : ℕ) → slice_get st k ≡ Some w → n ≤ length ls → k < n → j ≡ k + 1 → left ≡ n - j → at ≡ n - 1 - k
      → was ≡ take (n - k) ls ++ (reverse (take k st) ++ tail) → is ≡ slice_set was at w → is ≡ take left ls ++ (reverse (take j st) ++ tail)
  places_one st ls tail was is w k j n left at e fit below jk lk atk was_is set =
      let more : j ≡ suc k = omega arith in
      let one : n - k ≡ suc left = omega arith in
      let here : at ≡ left = omega arith in
      let turned : reverse (take j st) ≡ w ∷ reverse (take k st) = ap (λ n. reverse (take n st)) more ∙ ap reverse (front st w k e) ∙ reverse-append (take k st) (w ∷ []) in
      set
      ∙ ap (λ q. slice_set q at w) (was_is ∙ ap (λ q. take q ls ++ (reverse (take k st) ++ tail)) one)
      ∙ ap (λ q. slice_set (take (suc left) ls ++ (reverse (take k st) ++ tail)) q w) here
      ∙ set_last ls (reverse (take k st) ++ tail) left w (omega arith)
      ∙ ap (λ q. take left ls ++ (q ++ tail)) (sym turned)

module _ {T : Type 0} (o : Outside) (ar : Areas T) where
  -- so many words of a stack that has them
  pub args_there : (n : ℕ) (st acc : List (Word T)) (go : List (Word T) → List (Word T) → State T) → n ≤ length st → with_args o ar n st acc go ≡ go (reverse (take n st) ++ acc) (drop n st)
  args_there zero st acc go l = refl
  args_there (suc n) [] acc go l = absurd (omega arith)
  args_there (suc n) (w ∷ st) acc go l =
      args_there n st (w ∷ acc) go (omega arith)
      ∙ ap (λ q. go q (drop n st)) (sym (ap (λ q. q ++ acc) (reverse-append (w ∷ []) (take n st)) ∙ append_assoc (reverse (take n st)) (w ∷ []) acc))

  pub args_missing : (n : ℕ) (st acc : List (Word T)) (go : List (Word T) → List (Word T) → State T) → length st < n → with_args o ar n st acc go ≡ stuck o ar
  args_missing zero st acc go l = absurd (omega arith)
  args_missing (suc n) [] acc go l = refl
  args_missing (suc n) (w ∷ st) acc go l = args_missing n st (w ∷ acc) go (omega arith)
