-- The first answer along a list, from a place on.
use Rattle.std.proofs.Common.{◌≡◌, ◌∙◌, ℕ, ◌+◌, ◌<◌, ◌≤◌, zero, suc, List, [], length, drop, get_or, sym, ap, Option, Some, None}
use Rattle.std.specs.Prelude.{option_to_list}
use Rattle.std.specs.Option.{option_or}
use Rattle.std.proofs.lemmas.List.{at_drop_more, at_drop_all}
use Rattle.class_model.specs.declared.class.ClassDef.{ClassDef}
use Rattle.class_model.specs.declared.types.FieldRef.{FieldRef}
use Rattle.set_lookups.specs.First.{first}
use Rattle.set_lookups.specs.Lookups.{Member, declared_field, field_from, interfaces_at, super_at}
use Rattle.set_lookups.proofs.Lists.{or_none}

pub first_found : {A : Type 0} (f : ℕ → Option A) (xs : List ℕ) (i : ℕ) (answer : A) → i < length xs → f (get_or xs i 0) ≡ Some answer → first f (drop i xs) ≡ Some answer
unfolding first
first_found f xs i answer lt e = at_drop_more (first f) xs i 0 lt ∙ ap (λ b. option_or b (first f (drop (i + 1) xs))) e

pub first_passed : {A : Type 0} (f : ℕ → Option A) (xs : List ℕ) (i : ℕ) → i < length xs → f (get_or xs i 0) ≡ None → first f (drop i xs) ≡ first f (drop (i + 1) xs)
unfolding first
first_passed f xs i lt e = at_drop_more (first f) xs i 0 lt ∙ ap (λ b. option_or b (first f (drop (i + 1) xs))) e

pub first_over : {A : Type 0} (f : ℕ → Option A) (xs : List ℕ) (i : ℕ) → length xs ≤ i → first f (drop i xs) ≡ None
unfolding first
first_over f xs i le = at_drop_all (first f) xs i le
