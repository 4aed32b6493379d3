-- The classes above a class, by name and by number.
use Rattle.std.proofs.Common.{◌≡◌, ◌∙◌, ℕ, zero, suc, Bool, true, false, ◌||◌, eqb, eqb-true, eq-eqb, List, [], ◌∷◌, ◌++◌, length, refl, sym, ap, subst, Option, Some, None}
use Rattle.std.specs.Prelude.{slice_get, filter_map, flat_map, option_to_list}
use Rattle.std.specs.List.{list_any, cons_option}
use Rattle.std.proofs.lemmas.Bool.{false≢true}
use Rattle.std.proofs.lemmas.Option.{same_Some}
use Rattle.std.proofs.lemmas.List.Folds.{list_any-append}
use Rattle.class_model.specs.declared.class.ClassDef.{ClassDef}
use Rattle.set_lookups.specs.Above.{same_name, find_class, super_of, interfaces_of, at_class, above, reaches, is_subtype}
use Rattle.set_lookups.specs.Cycle.{cycle}
use Rattle.set_lookups.specs.SameTypes.{one_test, name_true, name_self}
use Rattle.set_lookups.proofs.Settled.{direct_super, direct_interface}
use Rattle.run_state.specs.Texts.{same_text, object_name, class_type}
use Rattle.run_state.specs.References.{given}
use Rattle.run_state.specs.SetLooks.{lineage_of, lineage, some_named, fits_in}
use Rattle.look_laws.specs.Shown.{is_above, is_among_above, is_named_below}
use Rattle.look_laws.proofs.Ways.{Ends, ends, found_within}
use Rattle.look_laws.proofs.Alike.{placed, class_of_number}
use Rattle.look_laws.proofs.Fields.{lineage_nowhere, given_flat, each_later}

-- the class of a number is that of a name
is_at : ℕ → Option ℕ → Bool
is_at number None = false
is_at number (Some high) = eqb number high

-- it is reached in so many steps
abbrev reaches_in : ℕ → List ClassDef → ℕ → Option ℕ → Bool
reaches_in k set number None = false
reaches_in k set number (Some high) = reaches k set number high

none_any : (xs : List ℕ) → list_any (λ x. false) xs ≡ false
none_any [] = refl
none_any (x ∷ xs) = none_any xs

one_step : (k : ℕ) (set : List ClassDef) (number : ℕ) (high : Option ℕ) → reaches_in (suc k) set number high ≡ (is_at number high || list_any (λ n. reaches_in k set n high) (above set number))
unfolding is_at
one_step k set number None = sym (none_any (above set number))
one_step k set number (Some high) = refl

or_assoc : (a b c : Bool) → (a || (b || c)) ≡ ((a || b) || c)
or_assoc true b c = refl
or_assoc false b c = refl

pub some_append : (xs ys : List ClassDef) (name : List ℕ) → some_named (xs ++ ys) name ≡ (some_named xs name || some_named ys name)
some_append [] ys name = refl
some_append (c ∷ xs) ys name = ap (λ b. same_text c.name name || b) (some_append xs ys name) ∙ or_assoc (same_text c.name name) (some_named xs name) (some_named ys name)

-- the name of a class that a name finds
name_there : (set : List ClassDef) (name : List ℕ) (number : ℕ) (c : ClassDef) → find_class set name ≡ Some number → slice_get set number ≡ Some c → c.name ≡ name
name_there set name number c e at =
    let p = placed (λ (class : ClassDef). same_name class.name name) set number e in
    ap (λ (class : ClassDef). class.name) (same_Some c p.item (sym at ∙ p.at)) ∙ name_true p.item.name name p.passes

own_forth : (set : List ClassDef) (name other : List ℕ) (number : ℕ) → find_class set name ≡ Some number → same_name name other ≡ true → is_at number (find_class set other) ≡ true
unfolding is_at
own_forth set name other number e t = ap (is_at number) (ap (find_class set) (sym (name_true name other t)) ∙ e) ∙ eq-eqb number number refl

own_back : (set : List ClassDef) (name other : List ℕ) (number : ℕ) (c : ClassDef) (found : Option ℕ) → find_class set name ≡ Some number → slice_get set number ≡ Some c → find_class set other ≡ found → is_at number found ≡ true → same_name name other ≡ true
unfolding is_at
own_back set name other number c None e at f t = absurd (false≢true t)
own_back set name other number c (Some high) e at f t =
    let same : number ≡ high = eqb-true number high t in
    let there : slice_get set high ≡ Some c = ap (slice_get set) (sym same) ∙ at in
    let names : name ≡ other = sym (name_there set name number c e at) ∙ name_there set other high c f there in
    subst (λ n. same_name name n ≡ true) names (name_self name)

own_named : (set : List ClassDef) (name other : List ℕ) (number : ℕ) (c : ClassDef) → find_class set name ≡ Some number → slice_get set number ≡ Some c → same_text c.name other ≡ is_at number (find_class set other)
own_named set name other number c e at =
    ap (λ n. same_name n other) (name_there set name number c e at)
    ∙ one_test (same_name name other) (is_at number (find_class set other)) (own_forth set name other number e) (own_back set name other number c (find_class set other) e at refl)

-- what is said of a class that a name has
abbrev Lines : ℕ → List ClassDef → List ℕ → Type 0
Lines k set other = (name : List ℕ) (number : ℕ) → find_class set name ≡ Some number → Ends k set number → some_named (lineage_of k set name) other ≡ reaches_in k set number (find_class set other)

name_by : (k : ℕ) (set : List ClassDef) (other name : List ℕ) (names : List (List ℕ)) (found : Option ℕ) → find_class set name ≡ found → Lines k set other → ((j high : ℕ) → slice_get (cons_option found (filter_map (find_class set) names)) j ≡ Some high → Ends k set high) → some_named (flat_map (lineage_of k set) names) other ≡ list_any (λ n. reaches_in k set n (find_class set other)) (filter_map (find_class set) names) → some_named (lineage_of k set name ++ flat_map (lineage_of k set) names) other ≡ list_any (λ n. reaches_in k set n (find_class set other)) (cons_option found (filter_map (find_class set) names))
name_by k set other name names None e lines each rest =
    ap (λ line. some_named (line ++ flat_map (lineage_of k set) names) other) (lineage_nowhere k set name e) ∙ rest
name_by k set other name names (Some high) e lines each rest =
    some_append (lineage_of k set name) (flat_map (lineage_of k set) names) other
    ∙ ap (λ b. b || some_named (flat_map (lineage_of k set) names) other) (lines name high e (each 0 high refl))
    ∙ ap (λ b. reaches_in k set high (find_class set other) || b) rest

in_names : (k : ℕ) (set : List ClassDef) (other : List ℕ) (names : List (List ℕ)) → Lines k set other → ((j high : ℕ) → slice_get (filter_map (find_class set) names) j ≡ Some high → Ends k set high) → some_named (flat_map (lineage_of k set) names) other ≡ list_any (λ n. reaches_in k set n (find_class set other)) (filter_map (find_class set) names)
in_names k set other [] lines each = refl
in_names k set other (name ∷ names) lines each =
    name_by k set other name names (find_class set name) refl lines each
    (in_names k set other names lines (each_later (Ends k set) (find_class set name) (filter_map (find_class set) names) each))

or_back : (a b : Bool) → (a || b) ≡ (b || a)
or_back true true = refl
or_back true false = refl
or_back false true = refl
or_back false false = refl

above_by : (k : ℕ) (set : List ClassDef) (other : List ℕ) (number : ℕ) (c : ClassDef) → slice_get set number ≡ Some c → Ends (suc k) set number → Lines k set other → some_named (flat_map (lineage_of k set) c.interfaces ++ given c.super_name [] (lineage_of k set)) other ≡ list_any (λ n. reaches_in k set n (find_class set other)) (super_of set c ++ interfaces_of set c)
above_by k set other number c e ends lines =
    let lower = flat_map (lineage_of k set) c.interfaces in
    let f = λ (n : ℕ). reaches_in k set n (find_class set other) in
    ap (λ rest. some_named (lower ++ rest) other) (given_flat (lineage_of k set) c.super_name)
    ∙ some_append lower (flat_map (lineage_of k set) (option_to_list c.super_name)) other
    ∙ ap (λ b. b || some_named (flat_map (lineage_of k set) (option_to_list c.super_name)) other)
    (in_names k set other c.interfaces lines (λ j high at. ends high (direct_interface set number j high (ap (λ found. slice_get (at_class (interfaces_of set) found) j) e ∙ at))))
    ∙ ap (λ b. list_any f (interfaces_of set c) || b)
    (in_names k set other (option_to_list c.super_name) lines (λ j high at. ends high (direct_super set number j high (ap (λ found. slice_get (at_class (super_of set) found) j) e ∙ at))))
    ∙ or_back (list_any f (interfaces_of set c)) (list_any f (super_of set c))
    ∙ sym (list_any-append f (super_of set c) (interfaces_of set c))

class_by : (k : ℕ) (set : List ClassDef) (name other : List ℕ) (number : ℕ) (found : Option ClassDef) → find_class set name ≡ Some number → slice_get set number ≡ found → Ends (suc k) set number → Lines k set other → some_named (given found [] (λ c. c ∷ flat_map (lineage_of k set) c.interfaces ++ given c.super_name [] (lineage_of k set))) other ≡ (is_at number (find_class set other) || list_any (λ n. reaches_in k set n (find_class set other)) (at_class (λ c. super_of set c ++ interfaces_of set c) found))
class_by k set name other number None f e ends lines =
    let p = placed (λ (class : ClassDef). same_name class.name name) set number f in
    let no : None ≡ Some p.item = sym e ∙ p.at in absurd cc
class_by k set name other number (Some c) f e ends lines =
    ap (λ b. b || some_named (flat_map (lineage_of k set) c.interfaces ++ given c.super_name [] (lineage_of k set)) other) (own_named set name other number c f e)
    ∙ ap (λ b. is_at number (find_class set other) || b) (above_by k set other number c e ends lines)

lines_named : (k : ℕ) (set : List ClassDef) (other : List ℕ) → Lines k set other
lines_named zero set other name number e ends = absurd ends
lines_named (suc k) set other name number e ends =
    ap (λ found. some_named (given found [] (λ c. c ∷ flat_map (lineage_of k set) c.interfaces ++ given c.super_name [] (lineage_of k set))) other) (class_of_number set name number e)
    ∙ class_by k set name other number (slice_get set number) e refl ends (lines_named k set other)
    ∙ sym (one_step k set number (find_class set other))

-- a name among the classes above one
below_by : (set : List ClassDef) (low : ℕ) (high : Option ℕ) → reaches_in (length set) set low high ≡ is_above set low high
unfolding is_subtype
below_by set low None = refl
below_by set low (Some high) = refl

named_by : (set : List ClassDef) → cycle set ≡ None → (name other : List ℕ) (found : Option ℕ) → find_class set name ≡ found → some_named (lineage set name) other ≡ is_among_above set found (find_class set other)
named_by set none name other None e = ap (λ line. some_named line other) (lineage_nowhere (length set) set name e)
named_by set none name other (Some low) e =
    lines_named (length set) set other name low e (ends set none low (found_within set name low e)) ∙ below_by set low (find_class set other)

pub some_named_below : (set : List ClassDef) → cycle set ≡ None → (name other : List ℕ) → some_named (lineage set name) other ≡ is_named_below set name other
some_named_below set none name other = named_by set none name other (find_class set name) refl

-- two types that are classes
pub classes_fit : (set : List ClassDef) → cycle set ≡ None → (low high : List ℕ) → fits_in set (class_type low) (class_type high) ≡ (is_named_below set low high || same_text high object_name)
classes_fit set none low high = ap (λ b. b || same_text high object_name) (some_named_below set none low high)
