-- Straight-line code, gone over from its front.
use Rattle.std.proofs.Common.{◌≡◌, ◌∙◌, ℕ, ◌+◌, ◌<◌, ◌≤◌, List, [], ◌∷◌, length, get_or, drop, refl, sym, ap, subst, ◌↔◌}
use Rattle.std.proofs.lemmas.List.{drop_more, drop_all}
use Rattle.class_model.specs.declared.insn.Insn.{Insn}
use Rattle.first_form.specs.declared.frame.IntFrame.{IntFrame}
use Rattle.profile_check.specs.declared.profile.Names.{Names}
use Rattle.first_form.specs.Typing.{Types, Runs}
use Rattle.first_form.proofs.Rows.{types_same}

-- what stands from a place on
rest_is : (xs : List Insn) (i : ℕ) (x : Insn) → i < length xs → x ≡ get_or xs i x → drop i xs ≡ x ∷ drop (i + 1) xs
rest_is xs i x lt is = drop_more xs i x lt ∙ ap (λ (y : Insn). y ∷ drop (i + 1) xs) (sym is)

-- what an instruction leaves is where the code behind it goes on
pub run_on : (names : Names) (most : ℕ) (xs : List Insn) (i : ℕ) (x : Insn) (f g h : IntFrame) → i < length xs → x ≡ get_or xs i x
    → Types names most x f g → Runs names most (drop i xs) f h ↔ Runs names most (drop (i + 1) xs) g h
run_on names most xs i x f g h lt is t =
    let parts : drop i xs ≡ x ∷ drop (i + 1) xs = rest_is xs i x lt is in (
      λ r. let s : Runs names most (x ∷ drop (i + 1) xs) f h = subst (λ (ys : List Insn). Runs names most ys f h) parts r in
          subst (λ (k : IntFrame). Runs names most (drop (i + 1) xs) k h) (types_same names most x f s.0 g s.1 t) s.2,
      λ r. let s : Runs names most (x ∷ drop (i + 1) xs) f h = (g, t, r) in
          subst (λ (ys : List Insn). Runs names most ys f h) (sym parts) s,
    )

-- an instruction that does not type stops the code
pub run_stops : (names : Names) (most : ℕ) (xs : List Insn) (i : ℕ) (x : Insn) (f h : IntFrame) → i < length xs → x ≡ get_or xs i x
    → ((g : IntFrame) → Types names most x f g → ⊥) → Runs names most (drop i xs) f h → ⊥
run_stops names most xs i x f h lt is none r =
    let s : Runs names most (x ∷ drop (i + 1) xs) f h = subst (λ (ys : List Insn). Runs names most ys f h) (rest_is xs i x lt is) r in
    none s.0 s.1

-- behind the last instruction the code has run
pub run_ends : (names : Names) (most : ℕ) (xs : List Insn) (i : ℕ) (f : IntFrame) → length xs ≤ i → Runs names most (drop i xs) f f
run_ends names most xs i f le =
    let nothing : drop i xs ≡ [] = drop_all i xs le in
    subst (λ (ys : List Insn). Runs names most ys f f) (sym nothing) refl
