-- The place of a field in the objects of its class.
use Rattle.std.proofs.Common.{◌≡◌, ◌∙◌, ℕ, ◌+◌, zero, suc, Bool, true, false, not, ◌||◌, List, [], ◌∷◌, ◌++◌, length, filter, reverse, refl, sym, ap, Option, Some, None, arith}
use Rattle.std.specs.Prelude.{slice_get, position, flat_map, filter_map, option_map, option_and_then, option_to_list}
use Rattle.std.specs.List.{list_any, cons_option}
use Rattle.std.proofs.lemmas.Bool.{or_from, or_parts, or_right, false_from_ne_true, false≢true}
use Rattle.std.proofs.lemmas.Option.{same_Some}
use Rattle.std.proofs.lemmas.List.Folds.{list_any-append}
use Rattle.std.proofs.lemmas.Grind.{reverse_onto, flat_map-append}
use Rattle.std.proofs.lemmas.Iterator.Adapters.{position_from-zero}
use Rattle.class_model.specs.declared.types.FieldRef.{FieldRef}
use Rattle.class_model.specs.declared.class.FieldDef.{FieldDef}
use Rattle.class_model.specs.declared.class.ClassDef.{ClassDef}
use Rattle.set_lookups.specs.Above.{same_name, find_class, super_of, at_class, is_subtype}
use Rattle.set_lookups.specs.Cycle.{cycle}
use Rattle.set_lookups.specs.Needed.{duplicate}
use Rattle.set_lookups.specs.Lookups.{Member, has_field, resolve_field}
use Rattle.set_lookups.proofs.Settled.{direct_super}
use Rattle.run_state.specs.Texts as run
use Rattle.run_state.specs.References.{given}
use Rattle.run_state.specs.SetLooks.{is_static, instance_fields, reference_to, chain_of, superclasses, lineage_of, some_named, layout, class_named, field_place}
use Rattle.look_laws.specs.Shown.{field_in, shown_field, is_of_object, count_before, layout_above, is_among_above}
use Rattle.look_laws.proofs.Ways.{Ends, ends, found_within, not_back}
use Rattle.look_laws.proofs.Alike.{append_none, class_of_number}
use Rattle.look_laws.proofs.Places.{skip, through, first_placed, kept_place}
use Rattle.look_laws.proofs.FieldMembers.{field_member, meant_back}
use Rattle.look_laws.proofs.Fields.{resolved_field_found}
use Rattle.look_laws.proofs.Lineage.{some_named_below, some_append}
use Rattle.look_laws.proofs.Superclasses.{chain_none, chain_nowhere}
use Rattle.look_laws.proofs.Distinct.{found_itself}
use Rattle.look_laws.proofs.Statics.{not_of, back_false}

-- one step more changes nothing
abbrev Stays : ℕ → List ClassDef → Type 0
Stays k set = (name : List ℕ) (number : ℕ) → find_class set name ≡ Some number → Ends k set number → chain_of k set (Some name) ≡ chain_of (suc k) set (Some name)

stay_by : (k : ℕ) (set : List ClassDef) (name : List ℕ) (found : Option ℕ) → find_class set name ≡ found → Stays k set → ((high : ℕ) → found ≡ Some high → Ends k set high) → chain_of k set (Some name) ≡ chain_of (suc k) set (Some name)
stay_by k set name None e stays ends = chain_nowhere k set name e ∙ sym (chain_nowhere (suc k) set name e)
stay_by k set name (Some high) e stays ends = stays name high e (ends high refl)

super_stays : (k : ℕ) (set : List ClassDef) (above : Option (List ℕ)) → Stays k set → ((high : ℕ) → slice_get (filter_map (find_class set) (option_to_list above)) 0 ≡ Some high → Ends k set high) → chain_of k set above ≡ chain_of (suc k) set above
super_stays k set None stays ends = chain_none k set ∙ sym (chain_none (suc k) set)
super_stays k set (Some name) stays ends = stay_by k set name (find_class set name) refl stays (λ high e. ends high (ap (λ found. slice_get (cons_option found []) 0) e))

class_stays : (k : ℕ) (set : List ClassDef) (number : ℕ) (found : Option ClassDef) → slice_get set number ≡ found → Ends (suc k) set number → Stays k set → given found [] (λ c. c ∷ chain_of k set c.super_name) ≡ given found [] (λ c. c ∷ chain_of (suc k) set c.super_name)
class_stays k set number None e ends stays = refl
class_stays k set number (Some c) e ends stays =
    ap (λ rest. c ∷ rest) (super_stays k set c.super_name stays (λ high at. ends high (direct_super set number 0 high (ap (λ found. slice_get (at_class (super_of set) found) 0) e ∙ at))))

chain_stays : (k : ℕ) (set : List ClassDef) → Stays k set
chain_stays zero set name number e ends = absurd ends
chain_stays (suc k) set name number e ends =
    ap (λ found. given found [] (λ c. c ∷ chain_of k set c.super_name)) (class_of_number set name number e)
    ∙ class_stays k set number (slice_get set number) refl ends (chain_stays k set)
    ∙ sym (ap (λ found. given found [] (λ c. c ∷ chain_of (suc k) set c.super_name)) (class_of_number set name number e))

above_given : (set : List ClassDef) (above : Option (List ℕ)) → chain_of (length set) set above ≡ given above [] (superclasses set)
above_given set None = chain_none (length set) set
above_given set (Some name) = refl

-- the superclasses of a class: itself, and those of its superclass
pub superclasses_step : (set : List ClassDef) (name : List ℕ) (number : ℕ) (c : ClassDef) → cycle set ≡ None → find_class set name ≡ Some number → slice_get set number ≡ Some c → superclasses set name ≡ c ∷ given c.super_name [] (superclasses set)
superclasses_step set name number c none f e =
    chain_stays (length set) set name number f (ends set none number (found_within set name number f))
    ∙ ap (λ found. given found [] (λ k. k ∷ chain_of (length set) set k.super_name)) (class_of_number set name number f ∙ e)
    ∙ ap (λ rest. c ∷ rest) (above_given set c.super_name)

-- the fields of an object: those of its superclass's objects, then the class's own
layout_by : (set : List ClassDef) (above : Option (List ℕ)) → flat_map instance_fields (reverse (given above [] (superclasses set))) ≡ given above [] (layout set)
layout_by set None = refl
layout_by set (Some name) = refl

pub layout_step : (set : List ClassDef) (name : List ℕ) (number : ℕ) (c : ClassDef) → cycle set ≡ None → find_class set name ≡ Some number → slice_get set number ≡ Some c → layout set name ≡ layout_above set c ++ instance_fields c
layout_step set name number c none f e =
    ap (λ classes. flat_map instance_fields (reverse classes)) (superclasses_step set name number c none f e)
    ∙ ap (flat_map instance_fields) (reverse_onto (given c.super_name [] (superclasses set)) c [])
    ∙ flat_map-append instance_fields (reverse (given c.super_name [] (superclasses set))) (c ∷ [])
    ∙ ap (λ fields. flat_map instance_fields (reverse (given c.super_name [] (superclasses set))) ++ fields) (append_none (instance_fields c))
    ∙ ap (λ fields. fields ++ instance_fields c) (layout_by set c.super_name)

-- a superclass is among all classes above
or_more : (a b c : Bool) → (b ≡ true → c ≡ true) → (a || b) ≡ true → (a || c) ≡ true
or_more true b c h t = refl
or_more false b c h t = h t

abbrev Above : ℕ → List ClassDef → List ℕ → Type 0
Above k set other = (name : List ℕ) → some_named (chain_of k set (Some name)) other ≡ true → some_named (lineage_of k set name) other ≡ true

in_super : (k : ℕ) (set : List ClassDef) (other : List ℕ) (above : Option (List ℕ)) → Above k set other → some_named (chain_of k set above) other ≡ true → some_named (given above [] (lineage_of k set)) other ≡ true
in_super k set other None h t = ap (λ line. some_named line other) (sym (chain_none k set)) ∙ t
in_super k set other (Some name) h t = h name t

in_class : (k : ℕ) (set : List ClassDef) (other : List ℕ) (found : Option ClassDef) → Above k set other → some_named (given found [] (λ c. c ∷ chain_of k set c.super_name)) other ≡ true → some_named (given found [] (λ c. c ∷ flat_map (lineage_of k set) c.interfaces ++ given c.super_name [] (lineage_of k set))) other ≡ true
in_class k set other None h t = t
in_class k set other (Some c) h t =
    let lower = flat_map (lineage_of k set) c.interfaces in
    let upper = given c.super_name [] (lineage_of k set) in
    or_more (run.same_text c.name other) (some_named (chain_of k set c.super_name) other) (some_named (lower ++ upper) other)
    (λ more. some_append lower upper other ∙ or_right (some_named lower other) (some_named upper other) (in_super k set other c.super_name h more)) t

in_lineage : (k : ℕ) (set : List ClassDef) (other : List ℕ) → Above k set other
in_lineage zero set other name t = t
in_lineage (suc k) set other name t = in_class k set other (class_named set name) (in_lineage k set other) t

-- no superclass has the name of a class below it
never_below : (set : List ClassDef) (number : ℕ) (c : ClassDef) (name : List ℕ) (high : Option ℕ) → cycle set ≡ None → slice_get set number ≡ Some c → c.super_name ≡ Some name → find_class set name ≡ high → is_among_above set high (Some number) ≡ true → ⊥
unfolding is_subtype
never_below set number c name None none e s f t = absurd (false≢true t)
never_below set number c name (Some high) none e s f t =
    let at = ap (λ found. slice_get (at_class (super_of set) found) 0) e ∙ ap (λ above. slice_get (filter_map (find_class set) (option_to_list above)) 0) s ∙ ap (λ found. slice_get (cons_option found []) 0) f in
    not_back set number high none (direct_super set number 0 high at) t

no_such_super : (set : List ClassDef) (number : ℕ) (c : ClassDef) (above : Option (List ℕ)) → cycle set ≡ None → duplicate set ≡ None → slice_get set number ≡ Some c → c.super_name ≡ above → some_named (given above [] (superclasses set)) c.name ≡ false
no_such_super set number c None none h e s = refl
no_such_super set number c (Some name) none h e s =
    false_from_ne_true (some_named (superclasses set name) c.name) (λ t.
    never_below set number c name (find_class set name) none e s refl
    (ap (is_among_above set (find_class set name)) (sym (found_itself set number c h e)) ∙ sym (some_named_below set none name c.name) ∙ in_lineage (length set) set c.name name t))

-- so that no field of a superclass is meant
none_in_each : (ref : FieldRef) (c : ClassDef) (classes : List ClassDef) → some_named classes c.name ≡ false → list_any (run.same_field (field_in ref c)) (flat_map instance_fields classes) ≡ false
none_in_each ref c [] h = refl
none_in_each ref c (x ∷ classes) h =
    let parts = or_parts (same_name x.name c.name) (some_named classes c.name) h in
    list_any-append (run.same_field (field_in ref c)) (instance_fields x) (flat_map instance_fields classes)
    ∙ or_from (list_any (run.same_field (field_in ref c)) (instance_fields x)) (list_any (run.same_field (field_in ref c)) (flat_map instance_fields classes))
    (not_of ref c x (filter is_of_object x.fields) (back_false x.name c.name parts.0)) (none_in_each ref c classes parts.1)

named_back : (classes : List ClassDef) (name : List ℕ) → some_named classes name ≡ false → some_named (reverse classes) name ≡ false
named_back [] name h = refl
named_back (x ∷ classes) name h =
    let parts = or_parts (same_name x.name name) (some_named classes name) h in
    ap (λ line. some_named line name) (reverse_onto classes x [])
    ∙ some_append (reverse classes) (x ∷ []) name
    ∙ or_from (some_named (reverse classes) name) (some_named (x ∷ []) name) (named_back classes name parts.1) (or_from (same_name x.name name) false parts.0 refl)

none_above : (set : List ClassDef) (ref : FieldRef) (number : ℕ) (c : ClassDef) → cycle set ≡ None → duplicate set ≡ None → slice_get set number ≡ Some c → list_any (run.same_field (field_in ref c)) (layout_above set c) ≡ false
none_above set ref number c none h e =
    ap (list_any (run.same_field (field_in ref c))) (sym (layout_by set c.super_name))
    ∙ none_in_each ref c (reverse (given c.super_name [] (superclasses set))) (named_back (given c.super_name [] (superclasses set)) c.name (no_such_super set number c c.super_name none h e refl))

place_by : (set : List ClassDef) (ref : FieldRef) (m : Member) (c : ClassDef) (d : FieldDef) → cycle set ≡ None → duplicate set ≡ None → resolve_field set ref ≡ Some m → slice_get set m.class ≡ Some c → position (has_field ref) c.fields ≡ Some m.index → slice_get c.fields m.index ≡ Some d → is_static d.flags ≡ false → field_place set ref ≡ Some (length (layout_above set c) + count_before is_of_object m.index c)
place_by set ref m c d none h r e p f s =
    let up = layout_above set c in
    ap (λ found. given found None (λ f. position (run.same_field f) (layout set f.class)))
    (resolved_field_found set none ref ∙ ap (option_and_then (shown_field set ref)) r ∙ ap (option_map (field_in ref)) e)
    ∙ ap (position (run.same_field (field_in ref c))) (layout_step set c.name m.class c none (found_itself set m.class c h e) e)
    ∙ position_from-zero (run.same_field (field_in ref c)) (up ++ instance_fields c)
    ∙ skip (run.same_field (field_in ref c)) 0 up (instance_fields c) (none_above set ref m.class c none h e)
    ∙ through (run.same_field (field_in ref c)) (reference_to c) (has_field ref) (0 + length up) (filter is_of_object c.fields) (meant_back ref c)
    ∙ kept_place is_of_object (has_field ref) (0 + length up) c.fields m.index d (first_placed (has_field ref) c.fields m.index p) f (ap not s)
    ∙ (let z : 0 + length up + count_before is_of_object m.index c ≡ length up + count_before is_of_object m.index c = omega arith in ap Some z)

-- a field of an object that a reference means
pub place_found : (set : List ClassDef) (ref : FieldRef) (m : Member) (c : ClassDef) (d : FieldDef) → cycle set ≡ None → duplicate set ≡ None → resolve_field set ref ≡ Some m → slice_get set m.class ≡ Some c → slice_get c.fields m.index ≡ Some d → is_static d.flags ≡ false → field_place set ref ≡ Some (length (layout_above set c) + count_before is_of_object m.index c)
place_found set ref m c d none h r e f s =
    let member = field_member set ref m r in
    let same : member.class ≡ c = same_Some member.class c (sym member.there ∙ e) in
    place_by set ref m c d none h r e (ap (λ (k : ClassDef). position (has_field ref) k.fields) (sym same) ∙ member.place) f s
