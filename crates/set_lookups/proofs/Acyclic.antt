-- Where there are ranks, no class is above itself.
use Rattle.std.proofs.Common.{◌≡◌, ◌∙◌, ℕ, ◌+◌, ◌<◌, ◌≤◌, ◌&&◌, zero, suc, Bool, true, false, cond, List, [], ◌∷◌, ◌++◌, map, length, refl, sym, ap, Option, Some, None, arith, ◌⊎◌, inl, inr}
use Rattle.std.specs.Prelude.{slice_get, slice_index, option_to_list, option_and_then, filter_map}
use Rattle.std.specs.Option.{option_or}
use Rattle.std.specs.List.{list_all, cons_option}
use Rattle.std.proofs.lemmas.Option.{slice_get_within, same_Some}
use Rattle.std.proofs.lemmas.Bool.{ltb-true, cases_lt}
use Rattle.std.proofs.lemmas.List.{get_or_past}
use Rattle.class_model.specs.declared.class.ClassDef.{ClassDef}
use Rattle.set_lookups.specs.declared.row.Row.{Row}
use Rattle.set_lookups.specs.Above.{Subtype, same, up, above, reaches, find_class, super_of, interfaces_of}
use Rattle.set_lookups.specs.Cycle.{is_in_cycle, cycle}
use Rattle.set_lookups.specs.First.{first_from, name_if}
use Rattle.set_lookups.specs.Ranking.{is_lower, is_super_lower, RowsRanked}
use Rattle.set_lookups.specs.Links.{place_of, row_of}
use Rattle.set_lookups.specs.Lookups.{super_at, interfaces_at}
use Rattle.set_lookups.specs.Rows.{AreRows, Ranked}
use Rattle.set_lookups.proofs.Index.{no_row, row_links, place_in_names}
use Rattle.set_lookups.proofs.Lists.{nowhere}
use Rattle.set_lookups.proofs.Names.{names_of}
use Rattle.set_lookups.proofs.Settled.{above_parts}
use Rattle.set_lookups.specs.SameTypes.{one_test, and_first, and_second}
use Rattle.set_lookups.proofs.Subtypes.{passes, reached}

pub falls_far : (set : List ClassDef) (ranks : List ℕ) → Ranked set ranks → (low high : ℕ) → Subtype set low high → slice_index ranks high ≤ slice_index ranks low
falls_far set ranks r low high same = omega arith
falls_far set ranks r low high (up {middle = middle} direct rest) = omega (arith, r.falls low middle direct, falls_far set ranks r middle high rest)

pub in_no_cycle : (set : List ClassDef) (ranks : List ℕ) → Ranked set ranks → (number : ℕ) (class : ClassDef) → is_in_cycle set number class ≡ false
in_no_cycle set ranks r number class =
    one_test (is_in_cycle set number class) false (λ t.
    let p = passes (λ higher. reaches (length set) set higher number) (above set number) t in
    let far = falls_far set ranks r p.item number (reached set (length set) p.item number p.passes) in
    absurd (omega (arith, r.falls number p.item (p.place, p.at), far))) (λ t. cc)

none_told : (test : ℕ → ClassDef → Bool) → ((number : ℕ) (class : ClassDef) → test number class ≡ false) → (at : ℕ) (set : List ClassDef) → first_from (name_if test) at set ≡ None
unfolding first_from
none_told test h at [] = refl
none_told test h at (class ∷ set) = ap (λ b. option_or (cond b (Some class.name) None) (first_from (name_if test) (at + 1) set)) (h at class) ∙ none_told test h (at + 1) set

pub no_cycle : (set : List ClassDef) (ranks : List ℕ) → Ranked set ranks → cycle set ≡ None
unfolding cycle
no_cycle set ranks r = none_told (is_in_cycle set) (in_no_cycle set ranks r) 0 set

-- ranks that were judged row by row
all_at : (f : ℕ → Bool) (xs : List ℕ) (k x : ℕ) → list_all f xs ≡ true → slice_get xs k ≡ Some x → f x ≡ true
all_at f [] k x h at = cc
all_at f (y ∷ ys) zero x h at = ap f (sym (same_Some y x at)) ∙ and_first (f y) (list_all f ys) h
all_at f (y ∷ ys) (suc k) x h at = all_at f ys k x (and_second (f y) (list_all f ys) h) at

all_of : (ranks : List ℕ) (rank : ℕ) (superclass : Option ℕ) (interfaces : List ℕ) → (is_super_lower ranks rank superclass && list_all (is_lower ranks rank) interfaces) ≡ true → list_all (is_lower ranks rank) (option_to_list superclass ++ interfaces) ≡ true
all_of ranks rank None interfaces h = h
all_of ranks rank (Some number) interfaces h = h

direct_in_row : (set : List ClassDef) (low high k : ℕ) (row : Row) → option_to_list row.superclass ≡ super_at set low → row.interfaces ≡ interfaces_at set low → slice_get (above set low) k ≡ Some high → slice_get (option_to_list row.superclass ++ row.interfaces) k ≡ Some high
direct_in_row set low high k row e f at = ap (λ xs. slice_get (xs ++ row.interfaces) k) e ∙ ap (λ ys. slice_get (super_at set low ++ ys) k) f ∙ ap (λ xs. slice_get xs k) (sym (above_parts set low)) ∙ at

falls_in : (set : List ClassDef) (rows : List Row) (ranks : List ℕ) (low high k : ℕ) (row : Option Row) → AreRows set rows → RowsRanked rows ranks → row ≡ slice_get rows low → slice_get (above set low) k ≡ Some high → slice_index ranks high < slice_index ranks low
falls_in set rows ranks low high k None linked ranked e at =
    let none = no_row set rows low linked e in
    absurd (nowhere (above set low) k high (above_parts set low ∙ ap (λ xs. xs ++ interfaces_at set low) none.0 ∙ none.1) at)
falls_in set rows ranks low high k (Some row) linked ranked e at =
    let links = row_links set rows low row linked e in
    let place = ranked.each low (slice_get_within rows low row (sym e)) in
    let all = all_of ranks (slice_index ranks low) row.superclass row.interfaces (place.falls row (sym e)) in
    ltb-true (slice_index ranks high) (slice_index ranks low) (all_at (is_lower ranks (slice_index ranks low)) (option_to_list row.superclass ++ row.interfaces) k high all (direct_in_row set low high k row links.0 links.1 at))

count_map : {A B : Type 0} (f : A → B) (xs : List A) → length (map f xs) ≡ length xs
count_map f [] = refl
count_map f (x ∷ xs) = ap suc (count_map f xs)

row_super : Row → List ℕ
row_super row = option_to_list row.superclass

row_interfaces : Row → List ℕ
row_interfaces row = row.interfaces

row_count : (set : List ClassDef) (rows : List Row) → AreRows set rows → length rows ≡ length set
unfolding row_interfaces
row_count set rows linked = sym (count_map row_interfaces rows) ∙ ap length linked.interfaces ∙ count_map (interfaces_of set) set

small_in : (set : List ClassDef) (rows : List Row) (ranks : List ℕ) (low : ℕ) → AreRows set rows → RowsRanked rows ranks → (low < length rows) ⊎ (length rows ≤ low) → slice_index ranks low ≤ length set
small_in set rows ranks low linked ranked (inl lt) = let place = ranked.each low lt in omega (arith, place.small, row_count set rows linked)
small_in set rows ranks low linked ranked (inr ge) = let none = get_or_past ranks low 0 (omega (arith, ge, ranked.as_many)) in omega (arith, none)

pub ranked_rows : (set : List ClassDef) (rows : List Row) (ranks : List ℕ) → AreRows set rows → RowsRanked rows ranks → Ranked set ranks
ranked_rows set rows ranks linked ranked = record {
  falls = λ low high direct. falls_in set rows ranks low high direct.0 (slice_get rows low) linked ranked refl direct.1;
  small = λ low. small_in set rows ranks low linked ranked (cases_lt low (length rows));
}

-- rows that are made from the names
placed : (set : List ClassDef) (keys : List (List ℕ)) (name : List ℕ) → keys ≡ names_of set → place_of keys name ≡ find_class set name
placed set keys name e = ap (λ ks. place_of ks name) e ∙ place_in_names set name

one_place : (a b : Option ℕ) → a ≡ b → option_to_list a ≡ cons_option b []
one_place a None e = ap option_to_list e
one_place a (Some k) e = ap option_to_list e

super_placed : (set : List ClassDef) (keys : List (List ℕ)) (name : Option (List ℕ)) → keys ≡ names_of set → option_to_list (option_and_then (place_of keys) name) ≡ filter_map (find_class set) (option_to_list name)
super_placed set keys None e = refl
super_placed set keys (Some name) e = one_place (place_of keys name) (find_class set name) (placed set keys name e)

all_placed : (set : List ClassDef) (keys names : List (List ℕ)) → keys ≡ names_of set → filter_map (place_of keys) names ≡ filter_map (find_class set) names
all_placed set keys [] e = refl
all_placed set keys (name ∷ names) e = ap (λ p. cons_option p (filter_map (place_of keys) names)) (placed set keys name e) ∙ ap (cons_option (find_class set name)) (all_placed set keys names e)

map_rows : {A B C : Type 0} (f : B → C) (g : A → B) (h : A → C) (xs : List A) → ((x : A) → f (g x) ≡ h x) → map f (map g xs) ≡ map h xs
map_rows f g h [] e = refl
map_rows f g h (x ∷ xs) e = ap (λ y. y ∷ map f (map g xs)) (e x) ∙ ap (λ ys. h x ∷ ys) (map_rows f g h xs e)

pub made_rows : (set : List ClassDef) (keys : List (List ℕ)) (rows : List Row) → keys ≡ names_of set → rows ≡ map (row_of keys) set → AreRows set rows
unfolding row_super row_interfaces
made_rows set keys rows e made = record {
  supers = ap (map row_super) made ∙ map_rows row_super (row_of keys) (super_of set) set (λ class. super_placed set keys class.super_name e);
  interfaces = ap (map row_interfaces) made ∙ map_rows row_interfaces (row_of keys) (interfaces_of set) set (λ class. all_placed set keys class.interfaces e);
}
