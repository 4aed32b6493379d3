-- Names that are compared.
use Rattle.std.proofs.Common.{◌≡◌, ℕ, Bool, true, false, ◌↔◌, IsTrue, List, refl, sym, subst}
use Rattle.std.specs.Cmp.Lexicographic.{same_text}
use Rattle.lists.proofs.Units.{pointwise_self}
use Rattle.frame_tables.specs.FirstFrame.{same_name}

one_test : (a b : Bool) → (a ≡ true → b ≡ true) → (b ≡ true → a ≡ true) → a ≡ b
one_test true true f g = refl
one_test true false f g = sym (f refl)
one_test false true f g = g refl
one_test false false f g = refl

-- a test that tells whether two names are the same is the test of the definition
pub same_exact : (xs ys : List ℕ) (r : Bool) → (IsTrue r ↔ (xs ≡ ys)) → r ≡ same_name xs ys
same_exact xs ys r h = one_test r (same_name xs ys) (λ t. subst (λ (zs : List ℕ). same_name xs zs ≡ true) (h.0 t) (pointwise_self xs)) (λ t. h.1 (same_text xs ys (sym t)))
