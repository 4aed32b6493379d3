-- What a class meets on the ways up, where none is above itself.
use Rattle.std.proofs.Common.{◌≡◌, ◌∙◌, ℕ, ◌<◌, ◌||◌, zero, suc, Bool, true, false, eqb, List, [], ◌∷◌, length, refl, sym, ap, subst, Option, Some, None}
use Rattle.std.specs.Prelude.{option_to_list, option_and_then, is_some, IfSome, slice_get, slice_index}
use Rattle.std.proofs.lemmas.Option.{same_Some}
use Rattle.std.specs.Option.{option_or}
use Rattle.std.specs.List.{list_any}
use Rattle.std.proofs.lemmas.List.Folds.{list_any-append}
use Rattle.std.proofs.Math.Bool.{or-false}
use Rattle.class_model.specs.declared.class.ClassDef.{ClassDef}
use Rattle.class_model.specs.declared.types.FieldRef.{FieldRef}
use Rattle.set_lookups.specs.Above.{Direct, above, reaches, is_subtype}
use Rattle.set_lookups.specs.Cycle.{is_in_cycle}
use Rattle.set_lookups.specs.First.{first}
use Rattle.set_lookups.specs.Levels.{any_levels}
use Rattle.set_lookups.specs.Lookups.{Member, declared_field, field_from, interfaces_at, super_at}
use Rattle.set_lookups.specs.Meets.{meets}
use Rattle.set_lookups.specs.Rows.{Ranked}
use Rattle.set_lookups.proofs.AnyLevels.{levels_meet}
use Rattle.set_lookups.proofs.Lists.{any_alike, first_alike, or_none}
use Rattle.set_lookups.proofs.Settled.{Stepwise, settled, above_parts, none_above, direct_super, direct_interface, no_super, no_interfaces}

meet_step : List ClassDef → (ℕ → Bool) → (ℕ → Bool) → ℕ → Bool
meet_step set test f low = test low || list_any f (above set low)

meet_stepwise : (set : List ClassDef) (test : ℕ → Bool) → Stepwise set (meet_step set test) (λ k low. meets k set test low)
unfolding meet_step
meet_stepwise set test = record {
  looks = λ f g low h. ap (λ b. test low || b) (any_alike f g (above set low) (λ k x at. h x (k, at)));
  more = λ k low. refl;
  top = λ low none. sym (ap (λ xs. test low || list_any (meets 0 set test) xs) (none_above set low none) ∙ or-false (test low));
}

or_back : (a b : Bool) → (a || b) ≡ (b || a)
or_back true true = refl
or_back true false = refl
or_back false true = refl
or_back false false = refl

or_last : (a : Bool) → (a || true) ≡ true
or_last true = refl
or_last false = refl

law : (set : List ClassDef) (ranks : List ℕ) (test : ℕ → Bool) → Ranked set ranks → (low : ℕ) → meets (length set) set test low ≡ (test low || (list_any (meets (length set) set test) (interfaces_at set low) || list_any (meets (length set) set test) (super_at set low)))
unfolding meet_step
law set ranks test r low =
    let f = meets (length set) set test in
    settled set ranks (meet_step set test) (λ k low. meets k set test low) r (meet_stepwise set test) low
    ∙ ap (λ b. test low || b) (ap (list_any f) (above_parts set low) ∙ list_any-append f (super_at set low) (interfaces_at set low) ∙ or_back (list_any f (super_at set low)) (list_any f (interfaces_at set low)))

pub meets_itself : (set : List ClassDef) (ranks : List ℕ) (test : ℕ → Bool) (at : ℕ) → Ranked set ranks → test at ≡ true → meets (length set) set test at ≡ true
meets_itself set ranks test at r t = law set ranks test r at ∙ ap (λ b. b || (list_any (meets (length set) set test) (interfaces_at set at) || list_any (meets (length set) set test) (super_at set at))) t

pub meets_interface : (set : List ClassDef) (ranks : List ℕ) (test : ℕ → Bool) (at : ℕ) → Ranked set ranks → list_any (meets (length set) set test) (interfaces_at set at) ≡ true → meets (length set) set test at ≡ true
meets_interface set ranks test at r t = law set ranks test r at ∙ ap (λ b. test at || (b || list_any (meets (length set) set test) (super_at set at))) t ∙ or_last (test at)

pub meets_higher : (set : List ClassDef) (ranks : List ℕ) (test : ℕ → Bool) (at : ℕ) (highers : List ℕ) → Ranked set ranks → test at ≡ false → list_any (meets (length set) set test) (interfaces_at set at) ≡ false → highers ≡ super_at set at → meets (length set) set test at ≡ list_any (meets (length set) set test) highers
meets_higher set ranks test at highers r none below e =
    let f = meets (length set) set test in
    law set ranks test r at ∙ ap (λ b. b || (list_any f (interfaces_at set at) || list_any f (super_at set at))) none ∙ ap (λ b. b || list_any f (super_at set at)) below ∙ ap (list_any f) (sym e)

pub meets_next : (set : List ClassDef) (ranks : List ℕ) (test : ℕ → Bool) (at next : ℕ) → Ranked set ranks → test at ≡ false → list_any (meets (length set) set test) (interfaces_at set at) ≡ false → option_to_list (Some next) ≡ super_at set at → meets (length set) set test at ≡ meets (length set) set test next
meets_next set ranks test at next r none below e = meets_higher set ranks test at (next ∷ []) r none below e ∙ or-false (meets (length set) set test next)

-- subtypes
pub reach_meets : (k : ℕ) (set : List ClassDef) (low high : ℕ) → reaches k set low high ≡ meets k set (λ number. eqb number high) low
reach_meets zero set low high = refl
reach_meets (suc k) set low high = ap (λ b. eqb low high || b) (any_alike (λ x. reaches k set x high) (meets k set (λ number. eqb number high)) (above set low) (λ _ x _. reach_meets k set x high))

pub subtype_meets : (set : List ClassDef) (low high : ℕ) → is_subtype set low high ≡ meets (length set) set (λ number. eqb number high) low
unfolding is_subtype
subtype_meets set low high = reach_meets (length set) set low high

-- fields
some_or : {A : Type 0} (a b : Option A) → is_some (option_or a b) ≡ (is_some a || is_some b)
some_or None b = refl
some_or (Some x) b = refl

some_first : {A : Type 0} (f : ℕ → Option A) (xs : List ℕ) → is_some (first f xs) ≡ list_any (λ x. is_some (f x)) xs
unfolding first
some_first f [] = refl
some_first f (x ∷ xs) = some_or (f x) (first f xs) ∙ ap (λ b. is_some (f x) || b) (some_first f xs)

abbrev pub has_own : List ClassDef → FieldRef → ℕ → Bool
has_own set target number = is_some (declared_field set target number)

some_each : (k : ℕ) (set : List ClassDef) (target : FieldRef) (xs : List ℕ) → ((x : ℕ) → is_some (field_from k set target x) ≡ meets k set (has_own set target) x) → is_some (first (field_from k set target) xs) ≡ list_any (meets k set (has_own set target)) xs
some_each k set target xs h = some_first (field_from k set target) xs ∙ any_alike (λ x. is_some (field_from k set target x)) (meets k set (has_own set target)) xs (λ _ x _. h x)

pub field_meets : (k : ℕ) (set : List ClassDef) (target : FieldRef) (low : ℕ) → is_some (field_from k set target low) ≡ meets k set (has_own set target) low
unfolding field_from
field_meets zero set target low = refl
field_meets (suc k) set target low =
    let f = field_from k set target in
    let m = meets k set (has_own set target) in
    some_or (declared_field set target low) (option_or (first f (interfaces_at set low)) (first f (super_at set low)))
    ∙ ap (λ b. has_own set target low || b)
    (some_or (first f (interfaces_at set low)) (first f (super_at set low))
    ∙ ap (λ b. b || is_some (first f (super_at set low))) (some_each k set target (interfaces_at set low) (field_meets k set target))
    ∙ ap (λ b. list_any m (interfaces_at set low) || b) (some_each k set target (super_at set low) (field_meets k set target))
    ∙ or_back (list_any m (interfaces_at set low)) (list_any m (super_at set low)) ∙ sym (list_any-append m (super_at set low) (interfaces_at set low)) ∙ ap (list_any m) (sym (above_parts set low)))

field_step : List ClassDef → FieldRef → (ℕ → Option Member) → ℕ → Option Member
field_step set target f low = option_or (declared_field set target low) (option_or (first f (interfaces_at set low)) (first f (super_at set low)))

field_stepwise : (set : List ClassDef) (target : FieldRef) → Stepwise set (field_step set target) (λ k low. field_from k set target low)
unfolding field_step field_from first
field_stepwise set target = record {
  looks = λ f g low h.
      ap (λ b. option_or (declared_field set target low) (option_or b (first f (super_at set low)))) (first_alike f g (interfaces_at set low) (λ k x at. h x (direct_interface set low k x at)))
      ∙ ap (λ b. option_or (declared_field set target low) (option_or (first g (interfaces_at set low)) b)) (first_alike f g (super_at set low) (λ k x at. h x (direct_super set low k x at)));
  more = λ k low. refl;
  top = λ low none.
      sym (ap (λ xs. option_or (declared_field set target low) (option_or (first (field_from 0 set target) xs) (first (field_from 0 set target) (super_at set low)))) (no_interfaces set low none)
      ∙ ap (λ xs. option_or (declared_field set target low) (first (field_from 0 set target) xs)) (no_super set low none) ∙ or_none (declared_field set target low));
}

field_law : (set : List ClassDef) (ranks : List ℕ) (target : FieldRef) → Ranked set ranks → (low : ℕ) → field_from (length set) set target low ≡ option_or (declared_field set target low) (option_or (first (field_from (length set) set target) (interfaces_at set low)) (first (field_from (length set) set target) (super_at set low)))
unfolding field_step
field_law set ranks target r low = settled set ranks (field_step set target) (λ k low. field_from k set target low) r (field_stepwise set target) low

pub own_field : (set : List ClassDef) (ranks : List ℕ) (target : FieldRef) (at : ℕ) (answer : Member) → Ranked set ranks → declared_field set target at ≡ Some answer → field_from (length set) set target at ≡ Some answer
own_field set ranks target at answer r e =
    let f = field_from (length set) set target in
    field_law set ranks target r at ∙ ap (λ a. option_or a (option_or (first f (interfaces_at set at)) (first f (super_at set at)))) e

some_stays : {A : Type 0} (a b : Option A) → is_some a ≡ true → option_or a b ≡ a
some_stays None b h = cc
some_stays (Some x) b h = refl

no_own : (set : List ClassDef) (ranks : List ℕ) (target : FieldRef) (at : ℕ) → Ranked set ranks → declared_field set target at ≡ None → field_from (length set) set target at ≡ option_or (first (field_from (length set) set target) (interfaces_at set at)) (first (field_from (length set) set target) (super_at set at))
no_own set ranks target at r none =
    let f = field_from (length set) set target in
    field_law set ranks target r at ∙ ap (λ a. option_or a (option_or (first f (interfaces_at set at)) (first f (super_at set at)))) none

pub field_of_interface : (set : List ClassDef) (ranks : List ℕ) (target : FieldRef) (at next : ℕ) → Ranked set ranks → declared_field set target at ≡ None → first (field_from (length set) set target) (interfaces_at set at) ≡ field_from (length set) set target next → is_some (field_from (length set) set target next) ≡ true → field_from (length set) set target at ≡ field_from (length set) set target next
field_of_interface set ranks target at next r none same some =
    let f = field_from (length set) set target in
    no_own set ranks target at r none ∙ ap (λ a. option_or a (first f (super_at set at))) same ∙ some_stays (f next) (first f (super_at set at)) some

pub field_of_super : (set : List ClassDef) (ranks : List ℕ) (target : FieldRef) (at : ℕ) (highers : List ℕ) → Ranked set ranks → declared_field set target at ≡ None → first (field_from (length set) set target) (interfaces_at set at) ≡ None → highers ≡ super_at set at → field_from (length set) set target at ≡ first (field_from (length set) set target) highers
field_of_super set ranks target at highers r none below e =
    let f = field_from (length set) set target in
    no_own set ranks target at r none ∙ ap (λ a. option_or a (first f (super_at set at))) below ∙ ap (first f) (sym e)

-- the first class that has a field from itself or from above
pub first_owner : {A : Type 0} (f : ℕ → Option A) (x : ℕ) (rest : List ℕ) → is_some (f x) ≡ true → first f (x ∷ rest) ≡ f x
unfolding first
first_owner f x rest some = some_stays (f x) (first f rest) some

pub first_of_option : {A : Type 0} (f : ℕ → Option A) (next : Option ℕ) → first f (option_to_list next) ≡ option_and_then f next
unfolding first
first_of_option f None = refl
first_of_option f (Some next) = or_none (f next)

pub direct_from_option : (set : List ClassDef) (at : ℕ) (next : Option ℕ) → option_to_list next ≡ super_at set at → IfSome next (λ high. Direct set at high)
direct_from_option set at None e = tt
direct_from_option set at (Some next) e = direct_super set at 0 next (ap (λ xs. slice_get xs 0) (sym e))

-- what is above has a lower rank
pub lower : (set : List ClassDef) (ranks : List ℕ) (at next : ℕ) (found : Option ℕ) → Ranked set ranks → found ≡ Some next → IfSome found (λ high. Direct set at high) → slice_index ranks next < slice_index ranks at
lower set ranks at next None r e direct = cc
lower set ranks at next (Some high) r e direct = subst (λ n. slice_index ranks n < slice_index ranks at) (same_Some high next e) (r.falls at high direct)

-- a class that is met above itself
pub in_cycle_meets : (set : List ClassDef) (number : ℕ) (class : ClassDef) → any_levels (length set) (above set) (λ other. eqb other number) (above set number) ≡ is_in_cycle set number class
in_cycle_meets set number class =
    levels_meet (length set) set (λ other. eqb other number) (above set number)
    ∙ any_alike (meets (length set) set (λ other. eqb other number)) (λ higher. reaches (length set) set higher number) (above set number) (λ _ higher _. sym (reach_meets (length set) set higher number))
