-- Lists whose elements are moved, and what is made of them along the way.
use Rattle.std.proofs.Common.{◌≡◌, ◌∙◌, Bool, ◌||◌, List, [], ◌∷◌, ◌++◌, map, refl, sym, Option, Some, None}
use Rattle.std.specs.Prelude.{flat_map, filter_map, option_map, option_and_then, is_none}
use Rattle.std.specs.Option.{option_or}
use Rattle.std.specs.List.{list_any, cons_option}
use Rattle.std.proofs.lemmas.List.{map-append}
use Rattle.set_lookups.specs.First.{first, holds_of}

pub flat_along : {A B C D : Type 0} (to : A → B) (move : C → D) (f : B → List D) (g : A → List C) → ((x : A) → f (to x) ≡ map move (g x)) → (xs : List A) → flat_map f (map to xs) ≡ map move (flat_map g xs)
flat_along to move f g h [] = refl
flat_along to move f g h (x ∷ xs) = (λ i. h x i ++ flat_along to move f g h xs i) ∙ sym (map-append move (g x) (flat_map g xs))

pub flat_kept : {A B C : Type 0} (to : A → B) (f : B → List C) (g : A → List C) → ((x : A) → f (to x) ≡ g x) → (xs : List A) → flat_map f (map to xs) ≡ flat_map g xs
flat_kept to f g h [] = refl
flat_kept to f g h (x ∷ xs) = λ i. h x i ++ flat_kept to f g h xs i

pub any_along : {A B : Type 0} (to : A → B) (f : B → Bool) (g : A → Bool) → ((x : A) → f (to x) ≡ g x) → (xs : List A) → list_any f (map to xs) ≡ list_any g xs
any_along to f g h [] = refl
any_along to f g h (x ∷ xs) = λ i. h x i || any_along to f g h xs i

or_moved : {C D : Type 0} (move : C → D) (a b : Option C) → option_or (option_map move a) (option_map move b) ≡ option_map move (option_or a b)
or_moved move None b = refl
or_moved move (Some x) b = refl

-- the first of two answers, where both are moved
pub or_along : {C D : Type 0} (move : C → D) (p q : Option D) (a b : Option C) → p ≡ option_map move a → q ≡ option_map move b → option_or p q ≡ option_map move (option_or a b)
or_along move p q a b e f = (λ i. option_or (e i) (f i)) ∙ or_moved move a b

pub first_along : {A B C D : Type 0} (to : A → B) (move : C → D) (f : B → Option D) (g : A → Option C) → ((x : A) → f (to x) ≡ option_map move (g x)) → (xs : List A) → first f (map to xs) ≡ option_map move (first g xs)
unfolding first
first_along to move f g h [] = refl
first_along to move f g h (x ∷ xs) = or_along move (f (to x)) (first f (map to xs)) (g x) (first g xs) (h x) (first_along to move f g h xs)

pub then_along : {A B C D : Type 0} (to : A → B) (move : C → D) (f : B → Option D) (g : A → Option C) → ((x : A) → f (to x) ≡ option_map move (g x)) → (o : Option A) → option_and_then f (option_map to o) ≡ option_map move (option_and_then g o)
then_along to move f g h None = refl
then_along to move f g h (Some x) = h x

pub then_kept : {A B C : Type 0} (to : A → B) (f : B → Option C) (g : A → Option C) → ((x : A) → f (to x) ≡ g x) → (o : Option A) → option_and_then f (option_map to o) ≡ option_and_then g o
then_kept to f g h None = refl
then_kept to f g h (Some x) = h x

pub holds_along : {A B : Type 0} (to : A → B) (f : B → Bool) (g : A → Bool) → ((x : A) → f (to x) ≡ g x) → (o : Option A) → holds_of f (option_map to o) ≡ holds_of g o
holds_along to f g h None = refl
holds_along to f g h (Some x) = h x

pub none_along : {A B : Type 0} (to : A → B) (o : Option A) → is_none (option_map to o) ≡ is_none o
none_along to None = refl
none_along to (Some x) = refl

cons_moved : {A B : Type 0} (to : A → B) (o : Option A) (xs : List A) → cons_option (option_map to o) (map to xs) ≡ map to (cons_option o xs)
cons_moved to None xs = refl
cons_moved to (Some x) xs = refl

pub filter_along : {K A B : Type 0} (to : A → B) (f : K → Option B) (g : K → Option A) → ((k : K) → f k ≡ option_map to (g k)) → (ks : List K) → filter_map f ks ≡ map to (filter_map g ks)
filter_along to f g h [] = refl
filter_along to f g h (k ∷ ks) = (λ i. cons_option (h k i) (filter_along to f g h ks i)) ∙ cons_moved to (g k) (filter_map g ks)
