-- The first answer along pieces that items of a list have in turn.
use Rattle.std.proofs.Common.{◌≡◌, ◌∙◌, ℕ, ◌+◌, ◌<◌, ◌≤◌, List, length, drop, get_or, sym, ap, Option, Some, None}
use Rattle.std.specs.Prelude.{flat_map}
use Rattle.std.specs.Option.{option_or}
use Rattle.std.proofs.lemmas.List.{at_drop_more, at_drop_all}
use Rattle.set_lookups.specs.First.{first, first_from}
use Rattle.set_lookups.proofs.Lists.{first_append}

next_item : {A B X : Type 0} (f : A → Option B) (g : X → List A) (xs : List X) (i : ℕ) (x : X) → i < length xs → x ≡ get_or xs i x → first f (flat_map g (drop i xs)) ≡ option_or (first f (g x)) (first f (flat_map g (drop (i + 1) xs)))
next_item f g xs i x lt is =
    at_drop_more (λ ys. first f (flat_map g ys)) xs i x lt ∙ first_append f (g (get_or xs i x)) (flat_map g (drop (i + 1) xs))
    ∙ ap (λ y. option_or (first f (g y)) (first f (flat_map g (drop (i + 1) xs)))) (sym is)

pub found_in : {A B X : Type 0} (f : A → Option B) (g : X → List A) (xs : List X) (i : ℕ) (x : X) (answer : B) → i < length xs → x ≡ get_or xs i x → Some answer ≡ first f (g x) → first f (flat_map g (drop i xs)) ≡ Some answer
found_in f g xs i x answer lt is e = next_item f g xs i x lt is ∙ ap (λ b. option_or b (first f (flat_map g (drop (i + 1) xs)))) (sym e)

pub passed_by : {A B X : Type 0} (f : A → Option B) (g : X → List A) (xs : List X) (i : ℕ) (x : X) → i < length xs → x ≡ get_or xs i x → None ≡ first f (g x) → first f (flat_map g (drop i xs)) ≡ first f (flat_map g (drop (i + 1) xs))
passed_by f g xs i x lt is e = next_item f g xs i x lt is ∙ ap (λ b. option_or b (first f (flat_map g (drop (i + 1) xs)))) (sym e)

pub none_further : {A B X : Type 0} (f : A → Option B) (g : X → List A) (xs : List X) (i : ℕ) → length xs ≤ i → first f (flat_map g (drop i xs)) ≡ None
unfolding first
none_further f g xs i le = at_drop_all (λ ys. first f (flat_map g ys)) xs i le

-- the same where the items are numbered
numbered_item : {B X : Type 0} (f : ℕ → X → Option B) (xs : List X) (i : ℕ) (x : X) → i < length xs → x ≡ get_or xs i x → first_from f i (drop i xs) ≡ option_or (f i x) (first_from f (i + 1) (drop (i + 1) xs))
unfolding first_from
numbered_item f xs i x lt is = at_drop_more (first_from f i) xs i x lt ∙ ap (λ y. option_or (f i y) (first_from f (i + 1) (drop (i + 1) xs))) (sym is)

pub numbered_found : {B X : Type 0} (f : ℕ → X → Option B) (xs : List X) (i : ℕ) (x : X) (answer : B) → i < length xs → x ≡ get_or xs i x → Some answer ≡ f i x → first_from f i (drop i xs) ≡ Some answer
numbered_found f xs i x answer lt is e = numbered_item f xs i x lt is ∙ ap (λ b. option_or b (first_from f (i + 1) (drop (i + 1) xs))) (sym e)

pub numbered_passed : {B X : Type 0} (f : ℕ → X → Option B) (xs : List X) (i : ℕ) (x : X) → i < length xs → x ≡ get_or xs i x → None ≡ f i x → first_from f i (drop i xs) ≡ first_from f (i + 1) (drop (i + 1) xs)
numbered_passed f xs i x lt is e = numbered_item f xs i x lt is ∙ ap (λ b. option_or b (first_from f (i + 1) (drop (i + 1) xs))) (sym e)

pub numbered_over : {B X : Type 0} (f : ℕ → X → Option B) (xs : List X) (i : ℕ) → length xs ≤ i → first_from f i (drop i xs) ≡ None
unfolding first_from
numbered_over f xs i le = at_drop_all (first_from f i) xs i le
