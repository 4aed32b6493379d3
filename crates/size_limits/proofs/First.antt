-- The first answer of items that are counted from a number on.
use Rattle.std.proofs.Common.{◌≡◌, ◌∙◌, ℕ, ◌+◌, ◌<◌, ◌≤◌, List, [], ◌∷◌, length, get_or, drop, refl, sym, ap, Option, Some, None, arith}
use Rattle.std.specs.Option.{option_or}
use Rattle.std.proofs.lemmas.List.{at_drop_more, at_drop_all}
use Rattle.class_limits.specs.Limits.{told}
use Rattle.size_limits.specs.declared.limit.LimitKind.{LimitKind}
use Rattle.size_limits.specs.Limits.{first_from, passed}

-- nothing is found in the first i items
pub record NoneYet {A B : Type 0} (f : ℕ → A → Option B) (xs : List A) (i : ℕ) : Type 0 where
  pub left : first_from f 0 xs ≡ first_from f i (drop i xs)

pub none_yet : {A B : Type 0} (f : ℕ → A → Option B) (xs : List A) → NoneYet f xs 0
none_yet f xs = record { left = refl }

first_cons : {A B : Type 0} (f : ℕ → A → Option B) (at : ℕ) (x : A) (xs : List A) → first_from f at (x ∷ xs) ≡ option_or (f at x) (first_from f (at + 1) xs)
unfolding first_from
first_cons f at x xs = refl

first_nil : {A B : Type 0} (f : ℕ → A → Option B) (at : ℕ) → first_from f at [] ≡ None
unfolding first_from
first_nil f at = refl

next_is : {A B : Type 0} (f : ℕ → A → Option B) (xs : List A) (i : ℕ) (x : A) → NoneYet f xs i → i < length xs → x ≡ get_or xs i x → first_from f 0 xs ≡ option_or (f i x) (first_from f (i + 1) (drop (i + 1) xs))
next_is f xs i x none lt is =
    none.left ∙ at_drop_more (first_from f i) xs i x lt ∙ ap (λ y. first_from f i (y ∷ drop (i + 1) xs)) (sym is) ∙ first_cons f i x (drop (i + 1) xs)

pub none_more : {A B : Type 0} (f : ℕ → A → Option B) (xs : List A) (i : ℕ) (x : A) → NoneYet f xs i → i < length xs → x ≡ get_or xs i x → f i x ≡ None → NoneYet f xs (i + 1)
none_more f xs i x none lt is nothing = record { left = next_is f xs i x none lt is ∙ ap (λ z. option_or z (first_from f (i + 1) (drop (i + 1) xs))) nothing }

pub found_here : {A B : Type 0} (f : ℕ → A → Option B) (xs : List A) (i : ℕ) (x : A) (y : B) → NoneYet f xs i → i < length xs → x ≡ get_or xs i x → f i x ≡ Some y → first_from f 0 xs ≡ Some y
found_here f xs i x y none lt is some = next_is f xs i x none lt is ∙ ap (λ z. option_or z (first_from f (i + 1) (drop (i + 1) xs))) some

pub none_in_all : {A B : Type 0} (f : ℕ → A → Option B) (xs : List A) (i : ℕ) → NoneYet f xs i → length xs ≤ i → first_from f 0 xs ≡ None
none_in_all f xs i none le = none.left ∙ at_drop_all (first_from f i) xs i le ∙ first_nil f i

-- what is told of a number decides
pub passed_told : (kind : LimitKind) (bound : ℕ) (method : Option ℕ) (n : ℕ) → bound ≤ 65535 → passed kind bound method (told n) ≡ passed kind bound method n
passed_told kind bound method n small = grind arith
