-- Selection of methods, by name and by number.
use Rattle.std.proofs.Common.{◌≡◌, ◌∙◌, ℕ, Bool, true, false, not, ◌&&◌, List, refl, ap, None}
use Rattle.std.specs.Prelude.{flat_map, option_to_list, option_and_then}
use Rattle.class_model.specs.declared.types.MethodDesc.{MethodDesc}
use Rattle.class_model.specs.declared.types.MethodRef.{MethodRef}
use Rattle.class_model.specs.declared.class.MethodDef.{MethodDef}
use Rattle.class_model.specs.declared.class.ClassDef.{ClassDef}
use Rattle.set_lookups.specs.Above.{same_name, find_class}
use Rattle.set_lookups.specs.Cycle.{cycle}
use Rattle.set_lookups.specs.First.{first}
use Rattle.set_lookups.specs.Flags.{is_private, is_static, is_inherited}
use Rattle.set_lookups.specs.Same as look
use Rattle.set_lookups.specs.Lookups.{has_method, declared, supers, select_by}
use Rattle.run_state.specs.SetLooks.{shown_method, has_name_and_desc, is_selectable, superclasses, first_where, selected_in}
use Rattle.look_laws.proofs.Alike.{descs_alike}
use Rattle.look_laws.proofs.Superclasses.{superclasses_named, first_shown, first_along}

with_both : (a b c s p : Bool) → b ≡ c → (a && b && (not s && not p)) ≡ (a && c && (not p && not s))
with_both true true true true true h = refl
with_both true true true true false h = refl
with_both true true true false true h = refl
with_both true true true false false h = refl
with_both true false false s p h = refl
with_both true true false s p h = absurd cc
with_both true false true s p h = absurd cc
with_both false b c s p h = refl

inherited_alike : (name : List ℕ) (desc : MethodDesc) (d : MethodDef) → (has_name_and_desc name desc d && is_selectable d) ≡ has_method name desc is_inherited d
inherited_alike name desc d =
    with_both (same_name d.name name) _ (look.same_desc d.desc desc) (is_static d.flags) (is_private d.flags) (descs_alike d.desc desc)

-- the first method up from the class of a name
first_from_name : (set : List ClassDef) → cycle set ≡ None → (class : List ℕ) (test : MethodDef → Bool) (name : List ℕ) (desc : MethodDesc) (wanted : MethodDef → Bool) → ((d : MethodDef) → test d ≡ has_method name desc wanted d) → first_where test (superclasses set class) ≡ option_and_then (shown_method set) (option_and_then (λ n. first (declared set name desc wanted) (supers set n)) (find_class set class))
first_from_name set none class test name desc wanted alike =
    ap (first_where test) (superclasses_named set none class)
    ∙ first_shown set test name desc wanted (flat_map (supers set) (option_to_list (find_class set class))) alike
    ∙ ap (option_and_then (shown_method set)) (first_along (declared set name desc wanted) set (find_class set class))

-- what it selects for the class of a receiver
pub selected_above : (set : List ClassDef) → cycle set ≡ None → (class : List ℕ) (ref : MethodRef) → selected_in set class ref ≡ option_and_then (shown_method set) (option_and_then (select_by set ref.name ref.desc) (find_class set class))
unfolding select_by
selected_above set none class ref =
    first_from_name set none class (λ d. has_name_and_desc ref.name ref.desc d && is_selectable d) ref.name ref.desc is_inherited (inherited_alike ref.name ref.desc)
