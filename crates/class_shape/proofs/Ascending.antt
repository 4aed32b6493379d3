-- Lists of rows whose keys ascend, row by row.
use Rattle.std.proofs.Common.{◌≡◌, ◌∙◌, ℕ, ◌+◌, ◌<◌, ◌≤◌, ℤ, List, [], ◌∷◌, length, get_or, drop, map, refl, sym, ap, subst, ◌↔◌}
use Rattle.std.specs.Prelude.{◌<ℤ◌}
use Rattle.std.proofs.lemmas.List.{drop_more, drop_all}
use Rattle.class_shape.specs.ShapedInsn.{AscendAbove}

-- what is left of the rows behind the first i, where the last key was `last`
pub record Left {A : Type 0} (f : A → ℤ) (first : ℤ) (xs : List A) (last : ℤ) (i : ℕ) : Type 0 where
  pub down : AscendAbove first (map f xs) → AscendAbove last (map f (drop i xs))
  pub up : AscendAbove last (map f (drop i xs)) → AscendAbove first (map f xs)

pub left_none : {A : Type 0} (f : A → ℤ) (first : ℤ) (xs : List A) → Left f first xs first 0
left_none f first xs = record { down = λ h. h; up = λ h. h }

-- what is left begins with the row at i
next_is : {A : Type 0} (xs : List A) (i : ℕ) (x : A) → i < length xs → x ≡ get_or xs i x → drop i xs ≡ x ∷ drop (i + 1) xs
next_is xs i x lt is = drop_more xs i x lt ∙ ap (λ y. y ∷ drop (i + 1) xs) (sym is)

pub left_more : {A : Type 0} (f : A → ℤ) (first : ℤ) (xs : List A) (last : ℤ) (i : ℕ) (x : A) → i < length xs → x ≡ get_or xs i x → last <ℤ f x → Left f first xs last i → Left f first xs (f x) (i + 1)
left_more f first xs last i x lt is above l = record {
  down = λ h. (subst (λ ys. AscendAbove last (map f ys)) (next_is xs i x lt is) (l.down h)).1;
  up = λ h. l.up (subst (λ ys. AscendAbove last (map f ys)) (sym (next_is xs i x lt is)) (above, h));
}

pub left_broken : {A : Type 0} (f : A → ℤ) (first : ℤ) (xs : List A) (last : ℤ) (i : ℕ) (x : A) → i < length xs → x ≡ get_or xs i x → (last <ℤ f x → ⊥) → Left f first xs last i → AscendAbove first (map f xs) → ⊥
left_broken f first xs last i x lt is low l h = low (subst (λ ys. AscendAbove last (map f ys)) (next_is xs i x lt is) (l.down h)).0

pub left_all : {A : Type 0} (f : A → ℤ) (first : ℤ) (xs : List A) (last : ℤ) (i : ℕ) → length xs ≤ i → Left f first xs last i → AscendAbove first (map f xs)
left_all f first xs last i le l = l.up (subst (λ ys. AscendAbove last (map f ys)) (sym (drop_all i xs le)) tt)
