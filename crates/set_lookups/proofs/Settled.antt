-- What follows from ranks: look-ups that go up in so many steps do not change with one step more.
use Rattle.std.proofs.Common.{◌≡◌, ◌∙◌, ℕ, ◌≤◌, ◌||◌, zero, suc, Bool, eqb, List, [], ◌∷◌, ◌++◌, length, refl, sym, ap, Option, Some, None, arith}
use Rattle.std.specs.Prelude.{slice_get, slice_index, flat_map}
use Rattle.std.specs.List.{list_any}
use Rattle.class_model.specs.declared.class.ClassDef.{ClassDef}
use Rattle.set_lookups.specs.Above.{Direct, above, reaches, is_subtype, at_class, super_of, interfaces_of}
use Rattle.set_lookups.specs.Lookups.{super_at, interfaces_at, chain, supers}
use Rattle.set_lookups.specs.Rows.{Ranked}
use Rattle.std.proofs.Math.Bool.{or-false}
use Rattle.set_lookups.proofs.Lists.{any_alike, flat_alike, at_left, at_right, empty}

-- a step up that looks no further than directly above
abbrev pub Local : {A : Type 0} → List ClassDef → ((ℕ → A) → ℕ → A) → Type 0
Local {A} set step = (f g : ℕ → A) (low : ℕ) → ((high : ℕ) → Direct set low high → f high ≡ g high) → step f low ≡ step g low

-- answers that are made step by step, and of a class with nothing above it at once
pub record Stepwise {A : Type 0} (set : List ClassDef) (step : (ℕ → A) → ℕ → A) (answers : ℕ → ℕ → A) : Type 0 where
  pub looks : Local set step
  pub more : (k low : ℕ) → answers (suc k) low ≡ step (answers k) low
  pub top : (low : ℕ) → ((high : ℕ) → Direct set low high → ⊥) → answers zero low ≡ step (answers zero) low

pub stays : {A : Type 0} (set : List ClassDef) (ranks : List ℕ) (step : (ℕ → A) → ℕ → A) (answers : ℕ → ℕ → A) → Ranked set ranks → Stepwise set step answers → (k low : ℕ) → slice_index ranks low ≤ k → answers k low ≡ step (answers k) low
stays set ranks step answers r s zero low le = s.top low (λ high direct. let lt = r.falls low high direct in absurd (omega (arith, lt, le)))
stays set ranks step answers r s (suc k) low le =
    s.more k low
    ∙ s.looks (answers k) (answers (suc k)) low (λ high direct. let lt = r.falls low high direct in stays set ranks step answers r s k high (omega (arith, lt, le)) ∙ sym (s.more k high))

-- the same with as many steps as there are classes
pub settled : {A : Type 0} (set : List ClassDef) (ranks : List ℕ) (step : (ℕ → A) → ℕ → A) (answers : ℕ → ℕ → A) → Ranked set ranks → Stepwise set step answers → (low : ℕ) → answers (length set) low ≡ step (answers (length set)) low
settled set ranks step answers r s low = stays set ranks step answers r s (length set) low (r.small low)

-- what is directly above: the superclass and the interfaces
above_parts_of : (found : Option ClassDef) (set : List ClassDef) → at_class (λ class. super_of set class ++ interfaces_of set class) found ≡ at_class (super_of set) found ++ at_class (interfaces_of set) found
above_parts_of None set = refl
above_parts_of (Some class) set = refl

pub above_parts : (set : List ClassDef) (low : ℕ) → above set low ≡ super_at set low ++ interfaces_at set low
above_parts set low = above_parts_of (slice_get set low) set

pub direct_super : (set : List ClassDef) (low k high : ℕ) → slice_get (super_at set low) k ≡ Some high → Direct set low high
direct_super set low k high at = (k, ap (λ xs. slice_get xs k) (above_parts set low) ∙ at_left (super_at set low) (interfaces_at set low) k high at)

pub direct_interface : (set : List ClassDef) (low k high : ℕ) → slice_get (interfaces_at set low) k ≡ Some high → Direct set low high
direct_interface set low k high at =
    let right = at_right (super_at set low) (interfaces_at set low) k high at in
    (right.0, ap (λ xs. slice_get xs right.0) (above_parts set low) ∙ right.1)

pub none_above : (set : List ClassDef) (low : ℕ) → ((high : ℕ) → Direct set low high → ⊥) → above set low ≡ []
none_above set low none = empty (above set low) (λ k high at. none high (k, at))

left_none : {A : Type 0} (xs ys : List A) → xs ++ ys ≡ [] → xs ≡ []
left_none [] ys e = refl
left_none (x ∷ xs) ys e = cc

right_none : {A : Type 0} (xs ys : List A) → xs ++ ys ≡ [] → ys ≡ []
right_none [] ys e = e
right_none (x ∷ xs) ys e = cc

pub no_super : (set : List ClassDef) (low : ℕ) → ((high : ℕ) → Direct set low high → ⊥) → super_at set low ≡ []
no_super set low none = left_none (super_at set low) (interfaces_at set low) (sym (above_parts set low) ∙ none_above set low none)

pub no_interfaces : (set : List ClassDef) (low : ℕ) → ((high : ℕ) → Direct set low high → ⊥) → interfaces_at set low ≡ []
no_interfaces set low none = right_none (super_at set low) (interfaces_at set low) (sym (above_parts set low) ∙ none_above set low none)

-- subtypes
reach_step : List ClassDef → ℕ → (ℕ → Bool) → ℕ → Bool
reach_step set high f low = (eqb low high) || list_any f (above set low)

reach_stepwise : (set : List ClassDef) (high : ℕ) → Stepwise set (reach_step set high) (λ k low. reaches k set low high)
unfolding reach_step
reach_stepwise set high = record {
  looks = λ f g low h. ap (λ b. (eqb low high) || b) (any_alike f g (above set low) (λ k x at. h x (k, at)));
  more = λ k low. refl;
  top = λ low none. sym (ap (λ xs. (eqb low high) || list_any (λ x. reaches 0 set x high) xs) (none_above set low none) ∙ or-false (eqb low high));
}

pub subtype_law : (set : List ClassDef) (ranks : List ℕ) (high : ℕ) → Ranked set ranks → (low : ℕ) → is_subtype set low high ≡ (eqb low high) || list_any (λ x. is_subtype set x high) (above set low)
unfolding reach_step is_subtype
subtype_law set ranks high r low = settled set ranks (reach_step set high) (λ k low. reaches k set low high) r (reach_stepwise set high) low

-- a class and its superclasses
chain_step : List ClassDef → (ℕ → List ℕ) → ℕ → List ℕ
chain_step set f low = low ∷ flat_map f (super_at set low)

chain_stepwise : (set : List ClassDef) → Stepwise set (chain_step set) (λ k low. chain k set low)
unfolding chain_step chain
chain_stepwise set = record {
  looks = λ f g low h. ap (λ rest. low ∷ rest) (flat_alike f g (super_at set low) (λ k x at. h x (direct_super set low k x at)));
  more = λ k low. refl;
  top = λ low none. sym (ap (λ xs. low ∷ flat_map (chain 0 set) xs) (no_super set low none));
}

pub supers_law : (set : List ClassDef) (ranks : List ℕ) → Ranked set ranks → (low : ℕ) → supers set low ≡ low ∷ flat_map (supers set) (super_at set low)
unfolding chain_step supers
supers_law set ranks r low = settled set ranks (chain_step set) (λ k low. chain k set low) r (chain_stepwise set) low
