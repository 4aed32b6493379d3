-- The first answer along the items of a list.
use Rattle.std.proofs.Common.{◌≡◌, ◌∙◌, ℕ, ◌+◌, ◌<◌, ◌≤◌, List, [], ◌++◌, length, drop, get_or, sym, ap, refl, Option, Some, None}
use Rattle.std.specs.Prelude.{map, option_to_list, option_and_then}
use Rattle.std.specs.Option.{option_or}
use Rattle.std.proofs.lemmas.List.{at_drop_more, at_drop_all}
use Rattle.set_lookups.specs.First.{first}
use Rattle.set_lookups.proofs.Lists.{or_none, first_append}

next_item : {A B : Type 0} (f : A → Option B) (xs : List A) (i : ℕ) (x : A) → i < length xs → x ≡ get_or xs i x → first f (drop i xs) ≡ option_or (f x) (first f (drop (i + 1) xs))
unfolding first
next_item f xs i x lt is = at_drop_more (first f) xs i x lt ∙ ap (λ y. option_or (f y) (first f (drop (i + 1) xs))) (sym is)

pub item_found : {A B : Type 0} (f : A → Option B) (xs : List A) (i : ℕ) (x : A) (answer : B) → i < length xs → x ≡ get_or xs i x → Some answer ≡ f x → first f (drop i xs) ≡ Some answer
item_found f xs i x answer lt is e = next_item f xs i x lt is ∙ ap (λ b. option_or b (first f (drop (i + 1) xs))) (sym e)

pub item_passed : {A B : Type 0} (f : A → Option B) (xs : List A) (i : ℕ) (x : A) → i < length xs → x ≡ get_or xs i x → None ≡ f x → first f (drop i xs) ≡ first f (drop (i + 1) xs)
item_passed f xs i x lt is e = next_item f xs i x lt is ∙ ap (λ b. option_or b (first f (drop (i + 1) xs))) (sym e)

pub items_over : {A B : Type 0} (f : A → Option B) (xs : List A) (i : ℕ) → length xs ≤ i → first f (drop i xs) ≡ None
unfolding first
items_over f xs i le = at_drop_all (first f) xs i le

-- a list that is the only piece
pub one_piece : {A B : Type 0} (f : A → Option B) (xs : List A) → first f (xs ++ []) ≡ first f xs
unfolding first
one_piece f xs = first_append f xs [] ∙ or_none (first f xs)

pub no_piece : {A B : Type 0} (f : A → Option B) → first f [] ≡ None
unfolding first
no_piece f = refl

-- the same where each item is asked by what is made of it
pub mapped_item : {A B C : Type 0} (f : B → Option C) (g : A → B) (xs : List A) (i : ℕ) (d : A) → i < length xs → first f (map g (drop i xs)) ≡ option_or (f (g (get_or xs i d))) (first f (map g (drop (i + 1) xs)))
unfolding first
mapped_item f g xs i d lt = at_drop_more (λ ys. first f (map g ys)) xs i d lt

pub mapped_over : {A B C : Type 0} (f : B → Option C) (g : A → B) (xs : List A) (i : ℕ) → length xs ≤ i → first f (map g (drop i xs)) ≡ None
unfolding first
mapped_over f g xs i le = at_drop_all (λ ys. first f (map g ys)) xs i le

-- the first answer of the one item that an option may hold
pub first_of_option : {A B : Type 0} (f : A → Option B) (o : Option A) (xs : List A) → option_to_list o ≡ xs → first f xs ≡ option_and_then f o
unfolding first
first_of_option f None xs e = sym (ap (first f) e)
first_of_option f (Some x) xs e = sym (ap (first f) e) ∙ or_none (f x)
