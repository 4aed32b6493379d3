-- Where no class is above itself, no way up has more classes than the set.
use Rattle.std.proofs.Common.{◌≡◌, ◌∙◌, ℕ, ◌+◌, ◌<◌, ◌≤◌, ◌||◌, zero, suc, Bool, true, false, cond, eqb, eqb-true, eq-eqb, List, [], ◌∷◌, ◌++◌, length, refl, sym, ap, subst, Option, Some, None, arith, ◌⊎◌, inl, inr}
use Rattle.std.specs.Prelude.{slice_get, filter_map, option_to_list}
use Rattle.std.specs.Option.{option_or}
use Rattle.std.specs.List.{list_any, cons_option, IsDistinct, AllByRecursion}
use Rattle.std.proofs.lemmas.Bool.{cases_lt, both_ways, or_parts, or_right, or_left, or_cases, false_from_ne_true, false≢true}
use Rattle.std.proofs.lemmas.List.Elements.{filter_map-append}
use Rattle.std.proofs.lemmas.Option.{same_Some, none-some}
use Rattle.std.proofs.lemmas.Map.Keys.{IsDistinct-cons}
use Rattle.std.proofs.lemmas.List.Quantifiers.{position-Some}
use Rattle.std.proofs.lemmas.Map.Steps.{length-le_from_distinct_below}
use Rattle.class_model.specs.declared.class.ClassDef.{ClassDef}
use Rattle.set_lookups.specs.Above.{Direct, above, reaches, same_name, find_class, names_above, super_of, interfaces_of, at_class}
use Rattle.set_lookups.specs.Cycle.{is_in_cycle, cycle}
use Rattle.set_lookups.specs.First.{first_from, name_if}
use Rattle.set_lookups.proofs.Subtypes.{passes, any_at}

-- each way up from a class has at most so many classes, itself among them
abbrev pub Ends : ℕ → List ClassDef → ℕ → Type 0
Ends zero set low = ⊥
Ends (suc k) set low = (high : ℕ) → Direct set low high → Ends k set high

-- what is reached in some steps is reached in more
pub self_reached : (set : List ClassDef) (k low : ℕ) → reaches k set low low ≡ true
self_reached set zero low = eq-eqb low low refl
self_reached set (suc k) low = or_left (eqb low low) (list_any (λ x. reaches k set x low) (above set low)) (eq-eqb low low refl)

step_up : (set : List ClassDef) (k low middle high : ℕ) → Direct set low middle → reaches k set middle high ≡ true → reaches (suc k) set low high ≡ true
step_up set k low middle high direct r = or_right (eqb low high) (list_any (λ x. reaches k set x high) (above set low)) (any_at (λ x. reaches k set x high) (above set low) direct.0 middle direct.1 r)

further_by : (set : List ClassDef) (k low middle high : ℕ) (b : Bool) → Direct set middle high → eqb low middle ≡ b → (b || list_any (λ x. reaches k set x middle) (above set low)) ≡ true → ((x : ℕ) → reaches k set x middle ≡ true → reaches (suc k) set x high ≡ true) → reaches (suc (suc k)) set low high ≡ true
further_by set k low middle high true direct e h rest = step_up set (suc k) low high high (subst (λ n. Direct set n high) (sym (eqb-true low middle e)) direct) (self_reached set (suc k) high)
further_by set k low middle high false direct e h rest =
    let p = passes (λ x. reaches k set x middle) (above set low) h in
    step_up set (suc k) low p.item high (p.place, p.at) (rest p.item p.passes)

further : (set : List ClassDef) (k low middle high : ℕ) → Direct set middle high → reaches k set low middle ≡ true → reaches (suc k) set low high ≡ true
further set zero low middle high direct r = step_up set zero low high high (subst (λ n. Direct set n high) (sym (eqb-true low middle r)) direct) (self_reached set zero high)
further set (suc k) low middle high direct r = further_by set k low middle high (eqb low middle) direct refl r (λ x h. further set k x middle high direct h)

longer_by : (set : List ClassDef) (k low high : ℕ) (b : Bool) → eqb low high ≡ b → (b || list_any (λ x. reaches k set x high) (above set low)) ≡ true → ((x : ℕ) → reaches k set x high ≡ true → reaches (suc k) set x high ≡ true) → reaches (suc (suc k)) set low high ≡ true
longer_by set k low high true e h rest = or_left (eqb low high) (list_any (λ x. reaches (suc k) set x high) (above set low)) e
longer_by set k low high false e h rest =
    let p = passes (λ x. reaches k set x high) (above set low) h in
    step_up set (suc k) low p.item high (p.place, p.at) (rest p.item p.passes)

longer : (set : List ClassDef) (k low high : ℕ) → reaches k set low high ≡ true → reaches (suc k) set low high ≡ true
longer set zero low high r = or_left (eqb low high) (list_any (λ x. reaches 0 set x high) (above set low)) r
longer set (suc k) low high r = longer_by set k low high (eqb low high) refl r (λ x h. longer set k x high h)

within_by : (set : List ClassDef) (n k low high : ℕ) → k ≤ suc n → (k < suc n) ⊎ (suc n ≤ k) → (k ≤ n → reaches n set low high ≡ true) → reaches k set low high ≡ true → reaches (suc n) set low high ≡ true
within_by set n k low high le (inl lt) rest r = longer set n low high (rest (omega (arith, lt)))
within_by set n k low high le (inr ge) rest r = let e : k ≡ suc n = omega (arith, le, ge) in subst (λ m. reaches m set low high ≡ true) e r

reached_within : (set : List ClassDef) (n k low high : ℕ) → k ≤ n → reaches k set low high ≡ true → reaches n set low high ≡ true
reached_within set zero k low high le r = let e : k ≡ 0 = omega (arith, le) in subst (λ m. reaches m set low high ≡ true) e r
reached_within set (suc n) k low high le r = within_by set n k low high le (cases_lt k (suc n)) (λ less. reached_within set n k low high less r) r

-- no class is told as above itself
both_none : {A : Type 0} (a b : Option A) → option_or a b ≡ None → (a ≡ None) × (b ≡ None)
both_none None b h = (refl, h)
both_none (Some x) b h = absurd cc

not_named : (b : Bool) (name : List ℕ) → cond b (Some name) None ≡ None → b ≡ false
not_named true name h = absurd cc
not_named false name h = refl

pub none_from : (test : ℕ → ClassDef → Bool) (at : ℕ) (set : List ClassDef) → first_from (name_if test) at set ≡ None → (number : ℕ) (class : ClassDef) → slice_get set number ≡ Some class → test (at + number) class ≡ false
unfolding first_from
none_from test at [] h number class e = absurd cc
none_from test at (c ∷ set) h zero class e =
    let here : at + 0 ≡ at = omega arith in
    ap (λ n. test n class) here ∙ ap (test at) (sym (same_Some c class e)) ∙ not_named (test at c) c.name (both_none (name_if test at c) (first_from (name_if test) (at + 1) set) h).0
none_from test at (c ∷ set) h (suc number) class e =
    let next : at + suc number ≡ at + 1 + number = omega arith in
    ap (λ n. test n class) next ∙ none_from test (at + 1) set (both_none (name_if test at c) (first_from (name_if test) (at + 1) set) h).1 number class e

not_back_in : (set : List ClassDef) (low high : ℕ) → cycle set ≡ None → (class : Option ClassDef) → slice_get set low ≡ class → Direct set low high → reaches (length set) set high low ≡ true → ⊥
unfolding cycle
not_back_in set low high none None e direct r = none-some high (ap (λ found. slice_get (at_class (λ c. super_of set c ++ interfaces_of set c) found) direct.0) (sym e) ∙ direct.1)
not_back_in set low high none (Some class) e direct r =
    let zero_low : 0 + low ≡ low = omega arith in
    let no : is_in_cycle set low class ≡ false = ap (λ n. is_in_cycle set n class) (sym zero_low) ∙ none_from (is_in_cycle set) 0 set none low class e in
    both_ways (is_in_cycle set low class) no (any_at (λ higher. reaches (length set) set higher low) (above set low) direct.0 high direct.1 r)

pub not_back : (set : List ClassDef) (low high : ℕ) → cycle set ≡ None → Direct set low high → reaches (length set) set high low ≡ true → ⊥
not_back set low high none direct r = not_back_in set low high none (slice_get set low) refl direct r

-- what is directly above a class is in the set
pub found_within : (set : List ClassDef) (name : List ℕ) (k : ℕ) → find_class set name ≡ Some k → k < length set
found_within [] name k h = absurd (none-some k h)
found_within (class ∷ set) name k h = (position-Some (λ (c : ClassDef). same_name c.name name) (class ∷ set) k class h).0

found_by : (set : List ClassDef) (found : Option ℕ) (name : List ℕ) (names : List (List ℕ)) (k high : ℕ) → find_class set name ≡ found → slice_get (cons_option found (filter_map (find_class set) names)) k ≡ Some high → ((j : ℕ) → slice_get (filter_map (find_class set) names) j ≡ Some high → high < length set) → high < length set
found_by set None name names k high e h rest = rest k h
found_by set (Some n) name names zero high e h rest = found_within set name high (e ∙ h)
found_by set (Some n) name names (suc k) high e h rest = rest k h

found_of : (set : List ClassDef) (names : List (List ℕ)) (k high : ℕ) → slice_get (filter_map (find_class set) names) k ≡ Some high → high < length set
found_of set [] k high h = absurd (none-some high h)
found_of set (name ∷ names) k high h = found_by set (find_class set name) name names k high refl h (λ j at. found_of set names j high at)

above_within : (set : List ClassDef) (class : Option ClassDef) (k high : ℕ) → slice_get (at_class (λ c. super_of set c ++ interfaces_of set c) class) k ≡ Some high → high < length set
above_within set None k high h = absurd (none-some high h)
above_within set (Some c) k high h = found_of set (names_above c) k high (ap (λ xs. slice_get xs k) (filter_map-append (find_class set) (option_to_list c.super_name) c.interfaces) ∙ h)

pub direct_within : (set : List ClassDef) (low high : ℕ) → Direct set low high → high < length set
direct_within set low high direct = above_within set (slice_get set low) direct.0 high direct.1

-- the classes of a way up, the last one first
pub record IsWay (set : List ClassDef) (steps low : ℕ) (way : List ℕ) : Type 0 where
  pub long : length way ≡ suc steps
  pub distinct : IsDistinct eqb way
  pub within : (q : ℕ) → list_any (eqb q) way ≡ true → q < length set
  pub reach : (q : ℕ) → list_any (eqb q) way ≡ true → reaches steps set q low ≡ true

all_apart : (q : ℕ) (xs : List ℕ) → list_any (eqb q) xs ≡ false → AllByRecursion (λ y. eqb q y ≡ false) xs
all_apart q [] h = tt
all_apart q (x ∷ xs) h = let p = or_parts (eqb q x) (list_any (eqb q) xs) h in (p.0, all_apart q xs p.1)

either_by : (q high : ℕ) (way : List ℕ) (P : ℕ → Type 0) → (eqb q high ≡ true) ⊎ (list_any (eqb q) way ≡ true) → P high → ((n : ℕ) → list_any (eqb n) way ≡ true → P n) → P q
either_by q high way P (inl e) here there = subst P (sym (eqb-true q high e)) here
either_by q high way P (inr e) here there = there q e

in_way : (q high : ℕ) (way : List ℕ) (P : ℕ → Type 0) → list_any (eqb q) (high ∷ way) ≡ true → P high → ((n : ℕ) → list_any (eqb n) way ≡ true → P n) → P q
in_way q high way P h here there = either_by q high way P (or_cases (eqb q high) (list_any (eqb q) way) h) here there

new_class : (set : List ClassDef) → cycle set ≡ None → (steps low high : ℕ) (way : List ℕ) → steps ≤ length set → Direct set low high → IsWay set steps low way → list_any (eqb high) way ≡ false
new_class set none steps low high way le direct w = false_from_ne_true (list_any (eqb high) way) (λ t. not_back set low high none direct (reached_within set (length set) steps high low le (w.reach high t)))

longer_way : (set : List ClassDef) → cycle set ≡ None → (steps low high : ℕ) (way : List ℕ) → steps ≤ length set → Direct set low high → IsWay set steps low way → IsWay set (suc steps) high (high ∷ way)
longer_way set none steps low high way le direct w = record {
  long = ap suc w.long;
  distinct = IsDistinct-cons eqb high way (all_apart high way (new_class set none steps low high way le direct w)) w.distinct;
  within = λ q h. in_way q high way (λ n. n < length set) h (direct_within set low high direct) w.within;
  reach = λ q h. in_way q high way (λ n. reaches (suc steps) set n high ≡ true) h (self_reached set (suc steps) high) (λ n i. further set steps n low high direct (w.reach n i));
}

ends_by : (set : List ClassDef) → cycle set ≡ None → (k steps low : ℕ) (way : List ℕ) → steps + k ≡ length set → IsWay set steps low way → Ends k set low
ends_by set none zero steps low way e w = let le = length-le_from_distinct_below way (length set) w.distinct w.within in omega (arith, le, w.long, e)
ends_by set none (suc k) steps low way e w =
    λ high direct. ends_by set none k (suc steps) high (high ∷ way) (omega (arith, e)) (longer_way set none steps low high way (omega (arith, e)) direct w)

first_way : (set : List ClassDef) (low : ℕ) → low < length set → IsWay set 0 low (low ∷ [])
unfolding IsDistinct
first_way set low lt = record {
  long = refl;
  distinct = (tt, tt);
  within = λ q h. in_way q low [] (λ n. n < length set) h lt (λ n i. absurd (false≢true i));
  reach = λ q h. in_way q low [] (λ n. reaches 0 set n low ≡ true) h (self_reached set 0 low) (λ n i. absurd (false≢true i));
}

pub ends : (set : List ClassDef) → cycle set ≡ None → (low : ℕ) → low < length set → Ends (length set) set low
ends set none low lt = ends_by set none (length set) 0 low (low ∷ []) (omega arith) (first_way set low lt)
