-- The names of final methods.
use Rattle.std.proofs.Common.{◌≡◌, ◌∙◌, ℕ, ◌||◌, ◌&&◌, Bool, true, false, cond, List, [], ◌∷◌, ◌++◌, refl, sym, ap, subst, Option, Some, None, zero, suc}
use Rattle.std.specs.Prelude.{flat_map, slice_get}
use Rattle.std.specs.List.{list_any}
use Rattle.std.proofs.lemmas.List.Folds.{list_any-append}
use Rattle.std.proofs.lemmas.Option.{same_Some}
use Rattle.class_set.proofs.Upwards.{one_more}
use Rattle.class_model.specs.declared.class.MethodDef.{MethodDef}
use Rattle.class_model.specs.declared.class.ClassDef.{ClassDef}
use Rattle.indexmap.specs.IndexSet.{insert_key}
use Rattle.set_lookups.specs.Above.{same_name, at_class}
use Rattle.set_lookups.specs.Flags.{is_final, is_inherited}
use Rattle.set_lookups.specs.SameTypes.{one_test, name_true, name_self, and_first, and_second}
use Rattle.class_set.specs.FinalSuper.{is_kept, methods_at}
use Rattle.class_set.specs.Upwards.{is_kept_named, methods_of, HoldsFinals}

or_none : (b : Bool) → (b || false) ≡ b
or_none true = refl
or_none false = refl

or_within : (a b : Bool) → (b ≡ true → a ≡ true) → a ≡ (a || b)
or_within true b h = refl
or_within false true h = h refl
or_within false false h = refl

added_by : (b : Bool) (keys : List (List ℕ)) (key name : List ℕ) → list_any (same_name key) keys ≡ b → list_any (same_name name) (cond b keys (keys ++ key ∷ [])) ≡ (list_any (same_name name) keys || same_name name key)
added_by true keys key name e =
    or_within (list_any (same_name name) keys) (same_name name key) (λ t. subst (λ n. list_any (same_name n) keys ≡ true) (sym (name_true name key t)) e)
added_by false keys key name e =
    list_any-append (same_name name) keys (key ∷ []) ∙ ap (λ b. list_any (same_name name) keys || b) (or_none (same_name name key))

-- one more name
pub added : (keys after : List (List ℕ)) (key name : List ℕ) → after ≡ insert_key same_name keys key → list_any (same_name name) after ≡ (list_any (same_name name) keys || same_name name key)
added keys after key name e = ap (list_any (same_name name)) e ∙ added_by (list_any (same_name key) keys) keys key name refl

both_true : (a b c : Bool) → a ≡ true → b ≡ true → c ≡ a && b && c
both_true a b c e f = sym (ap (λ x. x && b && c) e ∙ ap (λ x. true && x && c) f)

pub added_final : (keys after : List (List ℕ)) (key name : List ℕ) (method : MethodDef) → after ≡ insert_key same_name keys key → key ≡ method.name → is_final method.flags ≡ true → is_inherited method ≡ true → list_any (same_name name) after ≡ (list_any (same_name name) keys || is_kept_named name method)
added_final keys after key name method e same final inherited =
    added keys after key name e ∙ ap (λ n. list_any (same_name name) keys || same_name name n) same
    ∙ ap (λ b. list_any (same_name name) keys || b) (both_true (is_final method.flags) (is_inherited method) (same_name name method.name) final inherited)

-- a final method that is above has its name among them
or_right : (a b : Bool) → b ≡ true → (a || b) ≡ true
or_right true b h = refl
or_right false b h = h

or_mono : (a b c d : Bool) → (a ≡ true → c ≡ true) → (b ≡ true → d ≡ true) → (a || b) ≡ true → (c || d) ≡ true
or_mono true b c d f g h = ap (λ x. x || d) (f refl)
or_mono false b c d f g h = or_right c d (g h)

or_either : (a b c : Bool) → (a ≡ true → c ≡ true) → (b ≡ true → c ≡ true) → (a || b) ≡ true → c ≡ true
or_either true b c f g h = f refl
or_either false b c f g h = g h

pub any_mono : {A : Type 0} (p q : A → Bool) (xs : List A) → ((x : A) → p x ≡ true → q x ≡ true) → list_any p xs ≡ true → list_any q xs ≡ true
any_mono p q [] h t = t
any_mono p q (x ∷ xs) h t = or_mono (p x) (list_any p xs) (q x) (list_any q xs) (h x) (any_mono p q xs h) t

abbrev all_methods : List ClassDef → List MethodDef
all_methods set = flat_map (λ class. class.methods) set

in_class : (test : MethodDef → Bool) (set : List ClassDef) (number : ℕ) (class : ClassDef) → slice_get set number ≡ Some class → list_any test class.methods ≡ true → list_any test (all_methods set) ≡ true
in_class test [] number class at t = cc
in_class test (other ∷ set) zero class at t =
    list_any-append test other.methods (all_methods set) ∙ ap (λ c. list_any test c.methods || list_any test (all_methods set)) (same_Some other class at) ∙ ap (λ b. b || list_any test (all_methods set)) t
in_class test (other ∷ set) (suc number) class at t =
    list_any-append test other.methods (all_methods set) ∙ or_right (list_any test other.methods) (list_any test (all_methods set)) (in_class test set number class at t)

in_found : (test : MethodDef → Bool) (set : List ClassDef) (number : ℕ) (found : Option ClassDef) → slice_get set number ≡ found → list_any test (at_class (λ class. class.methods) found) ≡ true → list_any test (all_methods set) ≡ true
in_found test set number None at t = cc
in_found test set number (Some class) at t = in_class test set number class at t

in_some : (test : MethodDef → Bool) (set : List ClassDef) (numbers : List ℕ) → list_any test (methods_at set numbers) ≡ true → list_any test (all_methods set) ≡ true
in_some test set [] t = cc
in_some test set (number ∷ numbers) t =
    or_either (list_any test (methods_of set number)) (list_any test (methods_at set numbers)) (list_any test (all_methods set)) (in_found test set number (slice_get set number) refl) (in_some test set numbers)
    (sym (one_more test set number numbers) ∙ t)

pub and_both : (a b : Bool) → a ≡ true → b ≡ true → a && b ≡ true
and_both true b e f = f
and_both false b e f = e

name_turned : (x y : List ℕ) → same_name x y ≡ true → same_name y x ≡ true
name_turned x y t = subst (λ z. same_name z x ≡ true) (name_true x y t) (name_self x)

kept_named : (method other : MethodDef) → is_kept method other ≡ true → is_kept_named method.name other ≡ true
kept_named method other t =
    let final = is_final other.flags && is_inherited other in
    let named = and_first (final && same_name other.name method.name) _ t in
    and_both final (same_name method.name other.name) (and_first final _ named) (name_turned other.name method.name (and_second final _ named))

name_above : (set : List ClassDef) (names : List (List ℕ)) (numbers : List ℕ) (method : MethodDef) → HoldsFinals names set → list_any (is_kept method) (methods_at set numbers) ≡ true → list_any (same_name method.name) names ≡ true
name_above set names numbers method h t =
    h method.name ∙ any_mono (is_kept method) (is_kept_named method.name) (all_methods set) (kept_named method) (in_some (is_kept method) set numbers t)

pub with_name : (set : List ClassDef) (names : List (List ℕ)) (numbers : List ℕ) (method : MethodDef) → HoldsFinals names set → list_any (same_name method.name) names ≡ false → false ≡ list_any (is_kept method) (methods_at set numbers)
with_name set names numbers method h none =
    one_test false (list_any (is_kept method) (methods_at set numbers)) (λ t. cc) (λ t. sym none ∙ name_above set names numbers method h t)
