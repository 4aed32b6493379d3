-- Sets that end with the small base.
use Rattle.std.proofs.Common.{◌≡◌, ◌∙◌, ℕ, ◌-◌, ◌<◌, ◌≤◌, List, ◌++◌, length, take, drop, refl, sym, ap, arith, length-append}
use Rattle.std.proofs.lemmas.List.{take-append-drop, drop_at}
use Rattle.class_model.specs.declared.class.ClassDef.{ClassDef}
use Rattle.small_base.specs.Base.{small_base}

base_length : length small_base ≡ 21
unfolding small_base
base_length = refl

pub too_short : (set classes : List ClassDef) → length set < 21 → set ≡ classes ++ small_base → ⊥
too_short set classes lt same = omega (arith, ap length same, length-append classes small_base, base_length)

pub ends : (set front back : List ClassDef) (n : ℕ) → front ≡ take n set → back ≡ drop n set → back ≡ small_base → set ≡ front ++ small_base
ends set front back n before behind same =
    sym (take-append-drop n set) ∙ ap (λ xs. xs ++ drop n set) (sym before) ∙ ap (λ xs. front ++ xs) (sym behind ∙ same)

pub end_same : (set back classes : List ClassDef) → 21 ≤ length set → back ≡ drop (length set - 21) set → set ≡ classes ++ small_base → back ≡ small_base
end_same set back classes le behind same =
    behind ∙ ap (λ s. drop (length set - 21) s) same
    ∙ drop_at classes small_base (length set - 21) (omega (arith, ap length same, length-append classes small_base, base_length))
