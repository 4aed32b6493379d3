-- Resolution of fields, by name and by number.
use Rattle.std.proofs.Common.{◌≡◌, ◌∙◌, ℕ, zero, suc, Bool, true, false, ◌&&◌, cond, List, [], ◌∷◌, ◌++◌, length, refl, sym, ap, subst, Option, Some, None}
use Rattle.std.specs.Prelude.{slice_get, filter_map, flat_map, find, position, option_to_list, option_map, option_and_then}
use Rattle.std.specs.Option.{option_or}
use Rattle.std.specs.List.{cons_option}
use Rattle.std.proofs.lemmas.List.Folds.{find-append}
use Rattle.class_model.specs.declared.types.FieldRef.{FieldRef}
use Rattle.class_model.specs.declared.class.FieldDef.{FieldDef}
use Rattle.class_model.specs.declared.class.ClassDef.{ClassDef}
use Rattle.set_lookups.specs.Above.{same_name, find_class, super_of, interfaces_of, at_class}
use Rattle.set_lookups.specs.Cycle.{cycle}
use Rattle.set_lookups.specs.First.{first}
use Rattle.set_lookups.specs.Lookups.{Member, member_of, member_in, has_field, field_here, field_from, resolve_field}
use Rattle.set_lookups.proofs.Settled.{direct_super, direct_interface}
use Rattle.run_state.specs.Texts as run
use Rattle.run_state.specs.References.{given}
use Rattle.run_state.specs.SetLooks.{lineage_of, lineage, declares_field, resolved_field}
use Rattle.look_laws.specs.Shown.{field_in, shown_field}
use Rattle.look_laws.proofs.Ways.{Ends, ends, found_within}
use Rattle.look_laws.proofs.Alike.{types_alike, placed, find_place, find_alike, append_none, no_class, class_of_number}

-- a class is that of a member
abbrev Matches : List ClassDef → Option ClassDef → Option Member → Type 0
Matches set None None = Unit {0}
Matches set (Some c) (Some m) = slice_get set m.class ≡ Some c
Matches set None (Some m) = ⊥
Matches set (Some c) None = ⊥

either : (set : List ClassDef) (a b : Option ClassDef) (x y : Option Member) → Matches set a x → Matches set b y → Matches set (option_or a b) (option_or x y)
either set None b None y h k = k
either set (Some c) b (Some m) y h k = h
either set None b (Some m) y h k = absurd h
either set (Some c) b None y h k = absurd h

pub lineage_nowhere : (k : ℕ) (set : List ClassDef) (name : List ℕ) → find_class set name ≡ None → lineage_of k set name ≡ []
lineage_nowhere zero set name e = refl
lineage_nowhere (suc k) set name e =
    ap (λ found. given found [] (λ c. c ∷ flat_map (lineage_of k set) c.interfaces ++ given c.super_name [] (lineage_of k set))) (no_class set name e)

pub given_flat : {A B : Type 0} (g : A → List B) (above : Option A) → given above [] g ≡ flat_map g (option_to_list above)
given_flat g None = refl
given_flat g (Some x) = sym (append_none (g x))

pub each_later : (P : ℕ → Type 0) (found : Option ℕ) (xs : List ℕ) → ((j high : ℕ) → slice_get (cons_option found xs) j ≡ Some high → P high) → (j high : ℕ) → slice_get xs j ≡ Some high → P high
each_later P None xs each j high at = each j high at
each_later P (Some n) xs each j high at = each (suc j) high at

-- what is said of a class that a name has
abbrev Fields : ℕ → List ClassDef → FieldRef → Type 0
Fields k set ref = (name : List ℕ) (number : ℕ) → find_class set name ≡ Some number → Ends k set number → Matches set (find (declares_field ref) (lineage_of k set name)) (field_from k set ref number)

name_by : (k : ℕ) (set : List ClassDef) (ref : FieldRef) (name : List ℕ) (names : List (List ℕ)) (found : Option ℕ) → find_class set name ≡ found → Fields k set ref → ((j high : ℕ) → slice_get (cons_option found (filter_map (find_class set) names)) j ≡ Some high → Ends k set high) → Matches set (find (declares_field ref) (flat_map (lineage_of k set) names)) (first (field_from k set ref) (filter_map (find_class set) names)) → Matches set (find (declares_field ref) (lineage_of k set name ++ flat_map (lineage_of k set) names)) (first (field_from k set ref) (cons_option found (filter_map (find_class set) names)))
unfolding first
name_by k set ref name names None e fields each rest =
    subst (λ line. Matches set (find (declares_field ref) (line ++ flat_map (lineage_of k set) names)) (first (field_from k set ref) (filter_map (find_class set) names))) (sym (lineage_nowhere k set name e)) rest
name_by k set ref name names (Some high) e fields each rest =
    let others = first (field_from k set ref) (filter_map (find_class set) names) in
    subst (λ found. Matches set found (option_or (field_from k set ref high) others)) (sym (find-append (declares_field ref) (lineage_of k set name) (flat_map (lineage_of k set) names)))
    (either set (find (declares_field ref) (lineage_of k set name)) (find (declares_field ref) (flat_map (lineage_of k set) names)) (field_from k set ref high) others (fields name high e (each 0 high refl)) rest)

in_names : (k : ℕ) (set : List ClassDef) (ref : FieldRef) (names : List (List ℕ)) → Fields k set ref → ((j high : ℕ) → slice_get (filter_map (find_class set) names) j ≡ Some high → Ends k set high) → Matches set (find (declares_field ref) (flat_map (lineage_of k set) names)) (first (field_from k set ref) (filter_map (find_class set) names))
unfolding first
in_names k set ref [] fields each = tt
in_names k set ref (name ∷ names) fields each =
    name_by k set ref name names (find_class set name) refl fields each
    (in_names k set ref names fields (each_later (Ends k set) (find_class set name) (filter_map (find_class set) names) each))

-- a class's own field
own_field : FieldRef → FieldDef → Bool
own_field ref d = run.same_text d.name ref.name && run.same_type d.ty ref.ty

own_alike : (ref : FieldRef) (d : FieldDef) → own_field ref d ≡ has_field ref d
unfolding own_field
own_alike ref d = ap (λ t. same_name d.name ref.name && t) (types_alike d.ty ref.ty)

own_found : (ref : FieldRef) (c : ClassDef) → find (own_field ref) c.fields ≡ option_and_then (slice_get c.fields) (position (has_field ref) c.fields)
own_found ref c = find_alike (own_field ref) (has_field ref) c.fields (own_alike ref) ∙ find_place (has_field ref) c.fields

declares_none : (ref : FieldRef) (c : ClassDef) → position (has_field ref) c.fields ≡ None → declares_field ref c ≡ false
unfolding own_field
declares_none ref c e = ap (λ found. given found false (λ (d : FieldDef). true)) (own_found ref c ∙ ap (option_and_then (slice_get c.fields)) e)

declares_some : (ref : FieldRef) (c : ClassDef) (i : ℕ) → position (has_field ref) c.fields ≡ Some i → declares_field ref c ≡ true
unfolding own_field
declares_some ref c i e =
    let p = placed (has_field ref) c.fields i e in
    ap (λ found. given found false (λ (d : FieldDef). true)) (own_found ref c ∙ ap (option_and_then (slice_get c.fields)) e ∙ p.at)

own_by : (set : List ClassDef) (ref : FieldRef) (number : ℕ) (c : ClassDef) (place : Option ℕ) (rest : Option ClassDef) (others : Option Member) → position (has_field ref) c.fields ≡ place → slice_get set number ≡ Some c → Matches set rest others → Matches set (cond (declares_field ref c) (Some c) rest) (option_or (member_in number place) others)
own_by set ref number c None rest others at e h = subst (λ b. Matches set (cond b (Some c) rest) others) (sym (declares_none ref c at)) h
own_by set ref number c (Some i) rest others at e h = subst (λ b. Matches set (cond b (Some c) rest) (Some (member_of number i))) (sym (declares_some ref c i at)) e

above_by : (k : ℕ) (set : List ClassDef) (ref : FieldRef) (number : ℕ) (c : ClassDef) → slice_get set number ≡ Some c → Ends (suc k) set number → Fields k set ref → Matches set (find (declares_field ref) (flat_map (lineage_of k set) c.interfaces ++ given c.super_name [] (lineage_of k set))) (option_or (first (field_from k set ref) (interfaces_of set c)) (first (field_from k set ref) (super_of set c)))
above_by k set ref number c e ends fields =
    let lower = flat_map (lineage_of k set) c.interfaces in
    let upper = flat_map (lineage_of k set) (option_to_list c.super_name) in
    let f = field_from k set ref in
    subst (λ found. Matches set found (option_or (first f (interfaces_of set c)) (first f (super_of set c))))
    (sym (ap (λ rest. find (declares_field ref) (lower ++ rest)) (given_flat (lineage_of k set) c.super_name) ∙ find-append (declares_field ref) lower upper))
    (either set (find (declares_field ref) lower) (find (declares_field ref) upper) (first f (interfaces_of set c)) (first f (super_of set c))
    (in_names k set ref c.interfaces fields (λ j high at. ends high (direct_interface set number j high (ap (λ found. slice_get (at_class (interfaces_of set) found) j) e ∙ at))))
    (in_names k set ref (option_to_list c.super_name) fields (λ j high at. ends high (direct_super set number j high (ap (λ found. slice_get (at_class (super_of set) found) j) e ∙ at)))))

class_by : (k : ℕ) (set : List ClassDef) (ref : FieldRef) (number : ℕ) (found : Option ClassDef) → slice_get set number ≡ found → Ends (suc k) set number → Fields k set ref → Matches set (find (declares_field ref) (given found [] (λ c. c ∷ flat_map (lineage_of k set) c.interfaces ++ given c.super_name [] (lineage_of k set)))) (option_or (field_here ref number found) (option_or (first (field_from k set ref) (at_class (interfaces_of set) found)) (first (field_from k set ref) (at_class (super_of set) found))))
unfolding first
class_by k set ref number None e ends fields = tt
class_by k set ref number (Some c) e ends fields =
    own_by set ref number c (position (has_field ref) c.fields) (find (declares_field ref) (flat_map (lineage_of k set) c.interfaces ++ given c.super_name [] (lineage_of k set)))
    (option_or (first (field_from k set ref) (interfaces_of set c)) (first (field_from k set ref) (super_of set c))) refl e (above_by k set ref number c e ends fields)

fields_named : (k : ℕ) (set : List ClassDef) (ref : FieldRef) → Fields k set ref
unfolding field_from
fields_named zero set ref name number e ends = absurd ends
fields_named (suc k) set ref name number e ends =
    subst (λ found. Matches set (find (declares_field ref) (given found [] (λ c. c ∷ flat_map (lineage_of k set) c.interfaces ++ given c.super_name [] (lineage_of k set)))) (field_from (suc k) set ref number))
    (sym (class_of_number set name number e)) (class_by k set ref number (slice_get set number) refl ends (fields_named k set ref))

-- the field that a reference names
shown_by : (set : List ClassDef) (ref : FieldRef) (class : Option ClassDef) (member : Option Member) → Matches set class member → option_map (field_in ref) class ≡ option_and_then (shown_field set ref) member
shown_by set ref None None h = refl
shown_by set ref (Some c) (Some m) h = sym (ap (option_map (field_in ref)) h)
shown_by set ref None (Some m) h = absurd h
shown_by set ref (Some c) None h = absurd h

resolved_by : (set : List ClassDef) → cycle set ≡ None → (ref : FieldRef) (found : Option ℕ) → find_class set ref.class ≡ found → Matches set (find (declares_field ref) (lineage set ref.class)) (option_and_then (field_from (length set) set ref) found)
resolved_by set none ref None e = subst (λ line. Matches set (find (declares_field ref) line) None) (sym (lineage_nowhere (length set) set ref.class e)) tt
resolved_by set none ref (Some number) e = fields_named (length set) set ref ref.class number e (ends set none number (found_within set ref.class number e))

pub resolved_field_found : (set : List ClassDef) → cycle set ≡ None → (ref : FieldRef) → resolved_field set ref ≡ option_and_then (shown_field set ref) (resolve_field set ref)
unfolding resolve_field
resolved_field_found set none ref =
    shown_by set ref (find (declares_field ref) (lineage set ref.class)) (option_and_then (field_from (length set) set ref) (find_class set ref.class)) (resolved_by set none ref (find_class set ref.class) refl)
