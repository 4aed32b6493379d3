-- A line whose pieces are put one after the other.
use Rattle.std.proofs.Common.{◌≡◌, ◌∙◌, ℕ, List, ◌++◌, ap}
use Rattle.std.proofs.lemmas.List.{append_assoc}

pub five : (t a b c d e u v w x y : List ℕ) → u ≡ t ++ a → v ≡ u ++ b → w ≡ v ++ c → x ≡ w ++ d → y ≡ x ++ e → y ≡ t ++ (a ++ b ++ c ++ d ++ e)
five t a b c d e u v w x y first second third fourth fifth =
    fifth
    ∙ ap (λ (l : List ℕ). l ++ e) (fourth ∙ ap (λ (l : List ℕ). l ++ d) (third ∙ ap (λ (l : List ℕ). l ++ c) (second ∙ ap (λ (l : List ℕ). l ++ b) first)))
    ∙ ap (λ (l : List ℕ). l ++ c ++ d ++ e) (append_assoc t a b)
    ∙ ap (λ (l : List ℕ). l ++ d ++ e) (append_assoc t (a ++ b) c)
    ∙ ap (λ (l : List ℕ). l ++ e) (append_assoc t (a ++ b ++ c) d)
    ∙ append_assoc t (a ++ b ++ c ++ d) e
