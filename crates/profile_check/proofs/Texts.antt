-- Names that are compared.
use Rattle.std.proofs.Common.{◌≡◌, ◌∙◌, ℕ, Bool, true, false, ◌↔◌, IsTrue, List, [], ◌∷◌, refl, sym, subst, eqb, eq-eqb, ◌&&◌, ap}
use Rattle.std.specs.Prelude.{nat_eq}
use Rattle.std.specs.Cmp.Lexicographic.{pointwise, same_text}
use Rattle.profile_check.specs.Names.{same_name}

-- two tests that say the same are the same
pub one_test : (a b : Bool) → (a ≡ true → b ≡ true) → (b ≡ true → a ≡ true) → a ≡ b
one_test true true f g = refl
one_test true false f g = sym (f refl)
one_test false true f g = g refl
one_test false false f g = refl

pub and_true : (a b : Bool) → a ≡ true → b ≡ true → a && b ≡ true
and_true true b e f = f
and_true false b e f = e

pub same_self : (xs : List ℕ) → same_name xs xs ≡ true
same_self [] = refl
same_self (x ∷ xs) = and_true _ _ (eq-eqb x x refl) (same_self xs)

pub same_exact : (xs ys : List ℕ) (r : Bool) → (IsTrue r ↔ (xs ≡ ys)) → r ≡ same_name xs ys
same_exact xs ys r h =
    one_test r _ (λ t. subst (λ zs. same_name xs zs ≡ true) (h.0 t) (same_self xs)) (λ t. h.1 (same_text xs ys (sym t)))
