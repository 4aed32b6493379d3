-- Lists whose elements are treated alike, and the first answer along a list.
use Rattle.std.proofs.Common.{◌≡◌, ◌∙◌, ℕ, suc, zero, Bool, true, false, ◌||◌, List, [], ◌∷◌, ◌++◌, length, refl, sym, ap, Option, Some, None, arith, eqb, eqb-true}
use Rattle.std.specs.Prelude.{slice_get, flat_map}
use Rattle.std.specs.Option.{option_or}
use Rattle.std.specs.List.{list_any}
use Rattle.set_lookups.specs.First.{first}

-- two functions agree on the elements of a list
abbrev pub Agree : {A B : Type 0} → (A → B) → (A → B) → List A → Type 0
Agree {A} f g xs = (k : ℕ) (x : A) → slice_get xs k ≡ Some x → f x ≡ g x

pub agree_more : {A B : Type 0} (f g : A → B) (x : A) (xs : List A) → Agree f g (x ∷ xs) → Agree f g xs
agree_more f g x xs h = λ k y at. h (suc k) y at

pub any_alike : {A : Type 0} (f g : A → Bool) (xs : List A) → Agree f g xs → list_any f xs ≡ list_any g xs
any_alike f g [] h = refl
any_alike f g (x ∷ xs) h = ap (λ b. b || list_any f xs) (h 0 x refl) ∙ ap (λ b. g x || b) (any_alike f g xs (agree_more f g x xs h))

pub first_alike : {A B : Type 0} (f g : A → Option B) (xs : List A) → Agree f g xs → first f xs ≡ first g xs
unfolding first
first_alike f g [] h = refl
first_alike f g (x ∷ xs) h = ap (λ b. option_or b (first f xs)) (h 0 x refl) ∙ ap (λ b. option_or (g x) b) (first_alike f g xs (agree_more f g x xs h))

pub flat_alike : {A B : Type 0} (f g : A → List B) (xs : List A) → Agree f g xs → flat_map f xs ≡ flat_map g xs
flat_alike f g [] h = refl
flat_alike f g (x ∷ xs) h = ap (λ b. b ++ flat_map f xs) (h 0 x refl) ∙ ap (λ b. g x ++ b) (flat_alike f g xs (agree_more f g x xs h))

pub or_assoc : {A : Type 0} (a b c : Option A) → option_or (option_or a b) c ≡ option_or a (option_or b c)
or_assoc None b c = refl
or_assoc (Some x) b c = refl

pub or_none : {A : Type 0} (a : Option A) → option_or a None ≡ a
or_none None = refl
or_none (Some x) = refl

pub first_append : {A B : Type 0} (f : A → Option B) (xs ys : List A) → first f (xs ++ ys) ≡ option_or (first f xs) (first f ys)
unfolding first
first_append f [] ys = refl
first_append f (x ∷ xs) ys = ap (λ b. option_or (f x) b) (first_append f xs ys) ∙ sym (or_assoc (f x) (first f xs) (first f ys))

-- elements of a list joined of two
pub at_left : {A : Type 0} (xs ys : List A) (k : ℕ) (x : A) → slice_get xs k ≡ Some x → slice_get (xs ++ ys) k ≡ Some x
at_left [] ys k x h = cc
at_left (y ∷ xs) ys zero x h = h
at_left (y ∷ xs) ys (suc k) x h = at_left xs ys k x h

pub at_right : {A : Type 0} (xs ys : List A) (k : ℕ) (x : A) → slice_get ys k ≡ Some x → (j : ℕ) × (slice_get (xs ++ ys) j ≡ Some x)
at_right [] ys k x h = (k, h)
at_right (y ∷ xs) ys k x h = let rest = at_right xs ys k x h in (suc rest.0, rest.1)

pub empty : {A : Type 0} (xs : List A) → ((k : ℕ) (x : A) → slice_get xs k ≡ Some x → ⊥) → xs ≡ []
empty [] h = refl
empty (x ∷ xs) h = absurd (h 0 x refl)

pub no_items : {A : Type 0} (xs : List A) → eqb (length xs) 0 ≡ true → xs ≡ []
no_items [] e = refl
no_items (x ∷ xs) e = absurd (omega (arith, eqb-true (length (x ∷ xs)) 0 e))

pub nowhere : {A : Type 0} (xs : List A) (k : ℕ) (x : A) → xs ≡ [] → slice_get xs k ≡ Some x → ⊥
nowhere [] k x e at = cc
nowhere (y ∷ xs) k x e at = cc

pub nothing_first : {A B : Type 0} (f : A → Option B) (xs : List A) → xs ≡ [] → first f xs ≡ None
unfolding first
nothing_first f xs e = ap (first f) e

pub none_any : {A : Type 0} (f : A → Bool) (xs : List A) → xs ≡ [] → list_any f xs ≡ false
none_any f xs e = ap (list_any f) e
