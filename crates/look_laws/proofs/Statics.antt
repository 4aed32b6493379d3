-- The place of a static field among all of them.
use Rattle.std.proofs.Common.{◌≡◌, ◌∙◌, ℕ, ◌+◌, zero, suc, true, false, ◌&&◌, List, [], ◌∷◌, length, map, refl, sym, ap, subst, Some, None, arith}
use Rattle.std.specs.Prelude.{slice_get, position, find, option_map, option_and_then}
use Rattle.std.specs.List.{list_any, position_from}
use Rattle.std.proofs.lemmas.Bool.{or_from, false_from_ne_true, both_ways}
use Rattle.std.proofs.lemmas.Option.{same_Some, none-some}
use Rattle.std.proofs.lemmas.Iterator.Adapters.{position_from-zero}
use Rattle.std.proofs.lemmas.List.{length-append}
use Rattle.class_model.specs.declared.types.FieldRef.{FieldRef}
use Rattle.class_model.specs.declared.class.FieldDef.{FieldDef}
use Rattle.class_model.specs.declared.class.ClassDef.{ClassDef}
use Rattle.set_lookups.specs.Above.{same_name}
use Rattle.set_lookups.specs.Cycle.{cycle}
use Rattle.set_lookups.specs.Needed.{first_again, duplicate}
use Rattle.set_lookups.specs.SameTypes.{name_true, name_self}
use Rattle.set_lookups.specs.Lookups.{Member, has_field, resolve_field}
use Rattle.run_state.specs.Texts as run
use Rattle.run_state.specs.References.{given}
use Rattle.run_state.specs.SetLooks.{is_static, static_fields, reference_to, all_statics, text_of, text_constant, static_at}
use Rattle.look_laws.specs.Shown.{field_in, shown_field, is_of_class, count_before, statics_before, static_of}
use Rattle.look_laws.proofs.Alike.{find_place, find_alike, class_of_number}
use Rattle.look_laws.proofs.Places.{skip, stop, through, first_placed, kept_place}
use Rattle.look_laws.proofs.FieldMembers.{field_member, meant, meant_back}
use Rattle.look_laws.proofs.Fields.{resolved_field_found}
use Rattle.look_laws.proofs.Distinct.{names_of, again_parts, other_name, found_itself}

-- in its class
among_own : (set : List ClassDef) (ref : FieldRef) (c : ClassDef) (i at : ℕ) (d : FieldDef) → position (has_field ref) c.fields ≡ Some i → slice_get c.fields i ≡ Some d → is_static d.flags ≡ true → position_from (run.same_field (field_in ref c)) at (map (reference_to c) (static_fields c)) ≡ Some (at + count_before is_of_class i c)
among_own set ref c i at d p e s =
    through (run.same_field (field_in ref c)) (reference_to c) (has_field ref) at (static_fields c) (meant_back ref c)
    ∙ kept_place is_of_class (has_field ref) at c.fields i d (first_placed (has_field ref) c.fields i p) e s

-- not among those of a class of another name
pub not_of : (ref : FieldRef) (c x : ClassDef) (ds : List FieldDef) → same_name c.name x.name ≡ false → list_any (run.same_field (field_in ref c)) (map (reference_to x) ds) ≡ false
not_of ref c x [] h = refl
not_of ref c x (d ∷ ds) h =
    or_from (run.same_field (field_in ref c) (reference_to x d)) (list_any (run.same_field (field_in ref c)) (map (reference_to x) ds))
    (ap (λ b. b && same_name ref.name d.name && run.same_type ref.ty d.ty) h) (not_of ref c x ds h)

pub back_false : (x y : List ℕ) → same_name x y ≡ false → same_name y x ≡ false
back_false x y h = false_from_ne_true (same_name y x) (λ t. both_ways (same_name x y) h (subst (λ z. same_name z y ≡ true) (name_true y x t) (name_self y)))

-- among those of all classes
among_all : (set : List ClassDef) (ref : FieldRef) (number at : ℕ) (c : ClassDef) (i : ℕ) (d : FieldDef) → first_again (names_of set) ≡ None → slice_get set number ≡ Some c → position (has_field ref) c.fields ≡ Some i → slice_get c.fields i ≡ Some d → is_static d.flags ≡ true → position_from (run.same_field (field_in ref c)) at (all_statics set) ≡ Some (at + (length (statics_before set number) + count_before is_of_class i c))
among_all [] ref number at c i d h e p f s = absurd (none-some c e)
among_all (x ∷ set) ref zero at c i d h e p f s =
    let same : x ≡ c = same_Some x c e in
    let z : at + count_before is_of_class i c ≡ at + (0 + count_before is_of_class i c) = omega arith in
    stop (run.same_field (field_in ref c)) at (at + count_before is_of_class i c) (map (reference_to x) (static_fields x)) (all_statics set)
    (ap (λ (y : ClassDef). position_from (run.same_field (field_in ref c)) at (map (reference_to y) (static_fields y))) same ∙ among_own set ref c i at d p f s)
    ∙ ap Some z
among_all (x ∷ set) ref (suc number) at c i d h e p f s =
    let parts = again_parts x.name (names_of set) h in
    let own = map (reference_to x) (static_fields x) in
    let n : at + length own + (length (statics_before set number) + count_before is_of_class i c) ≡ at + (length own + length (statics_before set number) + count_before is_of_class i c) = omega arith in
    skip (run.same_field (field_in ref c)) at own (all_statics set) (not_of ref c x (static_fields x) (back_false x.name c.name (other_name set x.name number c parts.0 e)))
    ∙ among_all set ref number (at + length own) c i d parts.1 e p f s
    ∙ ap Some n
    ∙ ap (λ k. Some (at + (k + count_before is_of_class i c))) (sym (length-append own (statics_before set number)))

-- what a machine finds for a reference to a static field
found_text : (set : List ClassDef) (ref : FieldRef) (number : ℕ) (c : ClassDef) (i : ℕ) (d : FieldDef) → duplicate set ≡ None → slice_get set number ≡ Some c → position (has_field ref) c.fields ≡ Some i → slice_get c.fields i ≡ Some d → text_constant set (field_in ref c) ≡ text_of d.constant
found_text set ref number c i d h e p f =
    ap (λ class. given class None (λ k. given (find (λ d. run.same_field (reference_to k d) (field_in ref c)) k.fields) None (λ d. text_of d.constant))) (class_of_number set c.name number (found_itself set number c h e) ∙ e)
    ∙ ap (λ found. given found None (λ (d : FieldDef). text_of d.constant))
    (find_alike (λ d. run.same_field (reference_to c d) (field_in ref c)) (has_field ref) c.fields (meant ref c) ∙ find_place (has_field ref) c.fields ∙ ap (option_and_then (slice_get c.fields)) p ∙ f)

static_by : (set : List ClassDef) (ref : FieldRef) (m : Member) (c : ClassDef) (d : FieldDef) → cycle set ≡ None → duplicate set ≡ None → resolve_field set ref ≡ Some m → slice_get set m.class ≡ Some c → position (has_field ref) c.fields ≡ Some m.index → slice_get c.fields m.index ≡ Some d → is_static d.flags ≡ true → static_at set ref ≡ Some (static_of set m.class c m.index d)
unfolding duplicate
static_by set ref m c d none h r e p f s =
    let z : 0 + (length (statics_before set m.class) + count_before is_of_class m.index c) ≡ length (statics_before set m.class) + count_before is_of_class m.index c = omega arith in
    ap (λ found. given found None (λ f. option_map (λ place. record { class = f.class; place = place; text = text_constant set f }) (position (run.same_field f) (all_statics set))))
    (resolved_field_found set none ref ∙ ap (option_and_then (shown_field set ref)) r ∙ ap (option_map (field_in ref)) e)
    ∙ ap (option_map (λ place. record { class = c.name; place = place; text = text_constant set (field_in ref c) }))
    (position_from-zero (run.same_field (field_in ref c)) (all_statics set) ∙ among_all set ref m.class 0 c m.index d h e p f s ∙ ap Some z)
    ∙ ap (λ text. Some (record { class = c.name; place = length (statics_before set m.class) + count_before is_of_class m.index c; text = text })) (found_text set ref m.class c m.index d h e p f)

-- a static field that a reference means
pub static_found : (set : List ClassDef) (ref : FieldRef) (m : Member) (c : ClassDef) (d : FieldDef) → cycle set ≡ None → duplicate set ≡ None → resolve_field set ref ≡ Some m → slice_get set m.class ≡ Some c → slice_get c.fields m.index ≡ Some d → is_static d.flags ≡ true → static_at set ref ≡ Some (static_of set m.class c m.index d)
static_found set ref m c d none h r e f s =
    let member = field_member set ref m r in
    let same : member.class ≡ c = same_Some member.class c (sym member.there ∙ e) in
    static_by set ref m c d none h r e (ap (λ (k : ClassDef). position (has_field ref) k.fields) (sym same) ∙ member.place) f s
