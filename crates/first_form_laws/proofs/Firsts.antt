-- The first refusal along the classes of a set, by their numbers.
use Rattle.std.proofs.Common.{◌≡◌, ◌∙◌, ℕ, zero, suc, ◌+◌, Bool, false, cond, List, [], ◌∷◌, ◌++◌, length, refl, sym, ap, Option, Some, None, arith, zero-add}
use Rattle.std.specs.Prelude.{slice_get, flat_map}
use Rattle.std.specs.Option.{option_or}
use Rattle.std.proofs.lemmas.Option.{same_Some}
use Rattle.class_model.specs.declared.class.ClassDef.{ClassDef}
use Rattle.set_lookups.specs.First.{first, first_from, name_if, first_class}
use Rattle.set_lookups.proofs.Lists.{first_append}
use Rattle.first_form_laws.proofs.Renumbered.{Renumbered}

both_none : {A : Type 0} (a b : Option A) → option_or a b ≡ None → (a ≡ None) × (b ≡ None)
both_none None b h = (refl, h)
both_none (Some x) b h = absurd cc

pub two_none : {A : Type 0} (a b : Option A) → a ≡ None → b ≡ None → option_or a b ≡ None
two_none a b e f = λ i. option_or (e i) (f i)

each_from : {A B : Type 0} (f : ℕ → A → Option B) (at : ℕ) (xs : List A) → first_from f at xs ≡ None → (number : ℕ) (x : A) → slice_get xs number ≡ Some x → f (at + number) x ≡ None
unfolding first_from
each_from f at [] h number x e = absurd cc
each_from f at (y ∷ ys) h zero x e =
    let here : at + 0 ≡ at = omega arith in
    (λ i. f (here i) (sym (same_Some y x e) i)) ∙ (both_none (f at y) (first_from f (at + 1) ys) h).0
each_from f at (y ∷ ys) h (suc number) x e =
    let next : at + suc number ≡ at + 1 + number = omega arith in
    ap (λ n. f n x) next ∙ each_from f (at + 1) ys (both_none (f at y) (first_from f (at + 1) ys) h).1 number x e

from_each : {A B : Type 0} (f : ℕ → A → Option B) (at : ℕ) (xs : List A) → ((number : ℕ) (x : A) → slice_get xs number ≡ Some x → f (at + number) x ≡ None) → first_from f at xs ≡ None
unfolding first_from
from_each f at [] h = refl
from_each f at (y ∷ ys) h =
    let here : at ≡ at + 0 = omega arith in
    two_none (f at y) (first_from f (at + 1) ys) (ap (λ n. f n y) here ∙ h 0 y refl)
    (from_each f (at + 1) ys (λ number x e. let next : at + 1 + number ≡ at + suc number = omega arith in ap (λ n. f n x) next ∙ h (suc number) x e))

-- what refuses no class of a set in another order refuses none of the set
pub none_kept : {B : Type 0} {old new : List ClassDef} {to : ℕ → ℕ} → Renumbered old new to → (f g : ℕ → ClassDef → Option B) → ((number : ℕ) (class : ClassDef) → g (to number) class ≡ f number class) → first_from g 0 new ≡ None → first_from f 0 old ≡ None
none_kept {new = new} {to = to} r f g same h =
    from_each f 0 _ (λ number class e.
    ap (λ n. f n class) (zero-add number)
    ∙ sym (same number class)
    ∙ ap (λ n. g n class) (sym (zero-add (to number)))
    ∙ each_from g 0 new h (to number) class (r.gets number ∙ e))

pub no_class_kept : {old new : List ClassDef} {to : ℕ → ℕ} → Renumbered old new to → (f g : ℕ → ClassDef → Bool) → ((number : ℕ) (class : ClassDef) → g (to number) class ≡ f number class) → first_class g new ≡ None → first_class f old ≡ None
no_class_kept r f g same = none_kept r (name_if f) (name_if g) (λ number class. ap (λ b. cond b (Some class.name) None) (same number class))

-- the first answer along lists that are joined
pub along_joined : {A B C : Type 0} (f : B → Option C) (g : A → List B) (at : ℕ) (xs : List A) → first f (flat_map g xs) ≡ first_from (λ number x. first f (g x)) at xs
unfolding first first_from
along_joined f g at [] = refl
along_joined f g at (x ∷ xs) = first_append f (g x) (flat_map g xs) ∙ ap (option_or (first f (g x))) (along_joined f g (at + 1) xs)

-- one more item behind those that are not refused
pub last_from : {A B : Type 0} (f : ℕ → A → Option B) (at : ℕ) (xs : List A) (x : A) → first_from f at xs ≡ None → f (at + length xs) x ≡ None → first_from f at (xs ++ x ∷ []) ≡ None
unfolding first_from
last_from f at [] x h e =
    let here : at ≡ at + 0 = omega arith in
    two_none (f at x) None (ap (λ n. f n x) here ∙ e) refl
last_from f at (y ∷ ys) x h e =
    let rest = both_none (f at y) (first_from f (at + 1) ys) h in
    let there : at + 1 + length ys ≡ at + suc (length ys) = omega arith in
    two_none (f at y) (first_from f (at + 1) (ys ++ x ∷ [])) rest.0 (last_from f (at + 1) ys x rest.1 (ap (λ n. f n x) there ∙ e))

pub last_class : (test : ℕ → ClassDef → Bool) (set : List ClassDef) (class : ClassDef) → first_class test set ≡ None → test (0 + length set) class ≡ false → first_class test (set ++ class ∷ []) ≡ None
last_class test set class h e = last_from (name_if test) 0 set class h (ap (λ b. cond b (Some class.name) None) e)
