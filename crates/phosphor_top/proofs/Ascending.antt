-- Of ascending lists with the same elements there is one.
use Rattle.std.proofs.Common.{◌≡◌, ◌∙◌, ℕ, zero, suc, ◌<◌, List, [], ◌∷◌, length, refl, sym, ap, subst, arith, inl, inr}
use Rattle.std.specs.Prelude.{Contains, ◌⊎◌, slice_index_or}
use Rattle.std.specs.List.{AllByRecursion}
use Rattle.std.specs.List.Sorted.{IsStrictlySortedBy}
use Rattle.std.specs.Ordering.{nat_cmp, ordering_reverse}
use Rattle.std.specs.declared.cmp.Ordering.TheVariants.{Less, Equal, Greater}
use Rattle.std.specs.Cmp.Lexicographic.{slice_cmp, nat_list_cmp_total}
use Rattle.std.proofs.lemmas.Cmp.{tied_itself}
use Rattle.std.proofs.lemmas.List.Elements.{All-from_recursion, All-contains}
use Rattle.outside_io.specs.Files.{Ascend}

pub none_in_nothing : (x : List ℕ) → Contains [] x → ⊥
none_in_nothing x has = omega (arith, has.1)

first_of : (x : List ℕ) (xs : List (List ℕ)) → Contains (x ∷ xs) x
first_of x xs = (0, omega arith, refl)

later_of : (y x : List ℕ) (xs : List (List ℕ)) → Contains xs x → Contains (y ∷ xs) x
later_of y x xs has = (suc has.0, omega (arith, has.1), has.2)

which_at : (y x : List ℕ) (ys : List (List ℕ)) (k : ℕ) → k < length (y ∷ ys) → slice_index_or (y ∷ ys) k x ≡ x → (x ≡ y) ⊎ Contains ys x
which_at y x ys zero within is = inl (sym is)
which_at y x ys (suc k) within is = inr (k, omega (arith, within), is)

which : (y x : List ℕ) (ys : List (List ℕ)) → Contains (y ∷ ys) x → (x ≡ y) ⊎ Contains ys x
which y x ys has = which_at y x ys has.0 has.1 has.2

less_all : (x y : List ℕ) (xs : List (List ℕ)) → AllByRecursion (λ z. slice_cmp nat_cmp x z ≡ Less) xs → Contains xs y → slice_cmp nat_cmp x y ≡ Less
less_all x y xs all has = All-contains (λ (z : List ℕ). slice_cmp nat_cmp x z ≡ Less) xs y (All-from_recursion (λ (z : List ℕ). slice_cmp nat_cmp x z ≡ Less) xs all) has

not_itself : (x y : List ℕ) → slice_cmp nat_cmp x y ≡ Less → y ≡ x → ⊥
not_itself x y less same =
    let equal : slice_cmp nat_cmp x x ≡ Equal = tied_itself nat_list_cmp_total x in
    let also : slice_cmp nat_cmp x x ≡ Less = subst (λ (z : List ℕ). slice_cmp nat_cmp x z ≡ Less) same less in
    cc

not_both : (x y : List ℕ) → slice_cmp nat_cmp x y ≡ Less → slice_cmp nat_cmp y x ≡ Less → ⊥
not_both x y one other =
    let turned : slice_cmp nat_cmp x y ≡ Greater = nat_list_cmp_total.antisymm x y ∙ ap ordering_reverse other in
    cc

head_same : (x y : List ℕ) (xs ys : List (List ℕ)) → AllByRecursion (λ z. slice_cmp nat_cmp x z ≡ Less) xs → AllByRecursion (λ z. slice_cmp nat_cmp y z ≡ Less) ys
    → (x ≡ y) ⊎ Contains ys x → (y ≡ x) ⊎ Contains xs y → x ≡ y
head_same x y xs ys a b (inl same) other = same
head_same x y xs ys a b (inr in_ys) (inl same) = sym same
head_same x y xs ys a b (inr in_ys) (inr in_xs) = absurd (not_both x y (less_all x y xs a in_xs) (less_all y x ys b in_ys))

tail_in : (x y p : List ℕ) (xs ys : List (List ℕ)) → x ≡ y → AllByRecursion (λ z. slice_cmp nat_cmp x z ≡ Less) xs → Contains xs p → (p ≡ y) ⊎ Contains ys p → Contains ys p
tail_in x y p xs ys same a has (inl is) = absurd (not_itself x p (less_all x p xs a has) (is ∙ sym same))
tail_in x y p xs ys same a has (inr there) = there

same_cons : (x y : List ℕ) (xs ys : List (List ℕ)) → x ≡ y → xs ≡ ys → x ∷ xs ≡ y ∷ ys
same_cons x y xs ys one rest = cc

pub sorted_same : (xs ys : List (List ℕ)) → Ascend xs → Ascend ys → ((p : List ℕ) → Contains xs p → Contains ys p) → ((p : List ℕ) → Contains ys p → Contains xs p) → xs ≡ ys
unfolding IsStrictlySortedBy
sorted_same [] [] a b to from = refl
sorted_same [] (y ∷ ys) a b to from = absurd (none_in_nothing y (from y (first_of y ys)))
sorted_same (x ∷ xs) [] a b to from = absurd (none_in_nothing x (to x (first_of x xs)))
sorted_same (x ∷ xs) (y ∷ ys) a b to from =
    let same : x ≡ y = head_same x y xs ys a.0 b.0 (which y x ys (to x (first_of x xs))) (which x y xs (from y (first_of y ys))) in
    same_cons x y xs ys same
    (sorted_same xs ys a.1 b.1
    (λ p has. tail_in x y p xs ys same a.0 has (which y p ys (to p (later_of x p xs has))))
    (λ p has. tail_in y x p ys xs (sym same) b.0 has (which x p xs (from p (later_of y p ys has)))))
