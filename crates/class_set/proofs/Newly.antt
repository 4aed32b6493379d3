-- Where no class leaves a method open that is new to it, none leaves one open.
use Rattle.std.proofs.Common.{◌≡◌, ◌∙◌, ℕ, ◌+◌, ◌≤◌, ◌⊎◌, inl, inr, ◌||◌, ◌&&◌, zero, suc, Bool, true, false, cond, not, List, [], ◌∷◌, ◌++◌, length, refl, sym, ap, subst, Option, Some, None, arith}
use Rattle.std.specs.Prelude.{flat_map, slice_get, option_to_list, position, filter_map}
use Rattle.std.specs.Option.{option_or}
use Rattle.std.specs.List.{list_any, cons_option}
use Rattle.std.proofs.lemmas.Bool.{false≢true}
use Rattle.std.proofs.lemmas.Option.{same_Some}
use Rattle.class_model.specs.declared.types.MethodDesc.{MethodDesc}
use Rattle.class_model.specs.declared.class.MethodDef.{MethodDef}
use Rattle.class_model.specs.declared.class.ClassDef.{ClassDef}
use Rattle.set_lookups.specs.Above.{same_name, find_class, super_of, at_class}
use Rattle.set_lookups.specs.First.{first_from, name_if, holds_of}
use Rattle.set_lookups.specs.Flags.{is_inherited}
use Rattle.set_lookups.specs.Lookups.{super_at, supers, superinterfaces, declared, method_here, member_in, has_method, select_by}
use Rattle.set_lookups.specs.Rows.{Ranked}
use Rattle.set_lookups.proofs.Index.{found_above, shorter}
use Rattle.set_lookups.proofs.UpPieces.{none_of}
use Rattle.set_lookups.proofs.Names.{is_some-position}
use Rattle.set_lookups.specs.SameTypes.{one_test, name_true, desc_true, and_first, and_second}
use Rattle.set_lookups.proofs.Settled.{supers_law}
use Rattle.class_set.specs.Calls.{lacks_body}
use Rattle.class_set.specs.Core.{init_name}
use Rattle.class_set.specs.FinalSuper.{methods_at, classes_above}
use Rattle.class_set.specs.Open.{is_open, is_concrete, leaves_open, abstract_left, concrete_at, open_at, open_below, leaves_new_open, newly_left}
use Rattle.class_set.specs.Upwards.{methods_of, AreRanked}
use Rattle.class_set.proofs.Kept.{any_mono, and_both}
use Rattle.class_set.proofs.Levelled.{any_at, all_up, walk_on, none_above, whole_way}
use Rattle.class_set.proofs.Upwards.{append_none}

or_first : (a b : Bool) → (a || b) ≡ false → a ≡ false
or_first true b h = h
or_first false b h = refl

or_second : (a b : Bool) → (a || b) ≡ false → b ≡ false
or_second true b h = absurd cc
or_second false b h = h

none_by : {A : Type 0} (p q : A → Bool) (xs : List A) → ((x : A) → p x ≡ true → q x ≡ true) → list_any q xs ≡ false → list_any p xs ≡ false
none_by p q xs h none = one_test (list_any p xs) false (λ t. sym none ∙ any_mono p q xs h t) (λ t. absurd (false≢true t))

-- a method of the same name and descriptor
rest_of : List ClassDef → ℕ → List ℕ → MethodDesc → Bool
rest_of set number name desc = not (same_name name init_name) && lacks_body set (select_by set name desc number)

same_open : (set : List ClassDef) (number : ℕ) (method other : MethodDef) → is_open set number method ≡ true → has_method method.name method.desc is_inherited other ≡ true → is_open set number other ≡ true
unfolding rest_of
same_open set number method other t has =
    let named = same_name other.name method.name in
    let both = and_first (named && _) (is_inherited other) has in
    let name = name_true other.name method.name (and_first named _ both) in
    let desc = desc_true other.desc method.desc (and_second named _ both) in
    let same = ap (λ n. rest_of set number n other.desc) name ∙ ap (rest_of set number method.name) desc in
    and_both (is_inherited other) (rest_of set number other.name other.desc) (and_second (named && _) (is_inherited other) has) (same ∙ and_second (is_inherited method) _ t)

none_here : (name : List ℕ) (desc : MethodDesc) (test : MethodDef → Bool) (at : ℕ) (found : Option ClassDef) → list_any (has_method name desc test) (at_class (λ class. class.methods) found) ≡ false → method_here name desc test at found ≡ None
none_here name desc test at None h = refl
none_here name desc test at (Some class) h = ap (member_in at) (none_of (position (has_method name desc test) class.methods) (is_some-position (has_method name desc test) class.methods ∙ h))

-- what is open in a class and not declared there again is open in its superclass
open_next : (set : List ClassDef) (ranks : List ℕ) (number at next : ℕ) → Ranked set ranks → option_to_list (Some next) ≡ super_at set at → list_any (is_open set number) (methods_of set at) ≡ false → (method : MethodDef) → is_open set number method ≡ true → is_open set at method ≡ true → is_open set next method ≡ true
unfolding select_by
open_next set ranks number at next r e none method t here =
    let has = has_method method.name method.desc is_inherited in
    let absent = none_here method.name method.desc is_inherited at (slice_get set at) (none_by has (is_open set number) (methods_of set at) (λ other. same_open set number method other t) none) in
    let same = found_above (declared set method.name method.desc is_inherited) set ranks at next r absent e in
    sym (ap (λ selected. is_inherited method && (not (same_name method.name init_name) && lacks_body set selected)) same) ∙ here

-- a class has one superclass or none
one_super : (set : List ClassDef) (found : Option ℕ) → (cons_option found [] ≡ []) ⊎ ((next : ℕ) × (next ∷ [] ≡ cons_option found []))
one_super set None = inl refl
one_super set (Some next) = inr (next, refl)

super_named : (set : List ClassDef) (name : Option (List ℕ)) → (filter_map (find_class set) (option_to_list name) ≡ []) ⊎ ((next : ℕ) × (next ∷ [] ≡ filter_map (find_class set) (option_to_list name)))
super_named set None = inl refl
super_named set (Some name) = one_super set (find_class set name)

super_found : (set : List ClassDef) (found : Option ClassDef) → (at_class (super_of set) found ≡ []) ⊎ ((next : ℕ) × (next ∷ [] ≡ at_class (super_of set) found))
super_found set None = inl refl
super_found set (Some class) = super_named set class.super_name

-- no class leaves a method open that is new to it
abbrev NoneNew : List ClassDef → Type 0
NoneNew set = (number : ℕ) → concrete_at set number ≡ true → (open_at set number number || open_below set number (classes_above set number)) ≡ false

abbrev Clean : List ClassDef → ℕ → ℕ → Type 0
Clean set number at = any_at (is_open set number) set (all_up set (supers set at)) ≡ false

way_by : (set : List ClassDef) (number at : ℕ) → ((super_at set at ≡ []) ⊎ ((next : ℕ) × (next ∷ [] ≡ super_at set at))) → ((next : ℕ) → next ∷ [] ≡ super_at set at → Clean set number next) → any_at (is_open set number) set (all_up set (flat_map (supers set) (super_at set at))) ≡ false
way_by set number at (inl none) rest = ap (λ xs. any_at (is_open set number) set (all_up set (flat_map (supers set) xs))) none ∙ none_above (is_open set number) set
way_by set number at (inr next) rest =
    ap (λ xs. any_at (is_open set number) set (all_up set (flat_map (supers set) xs))) (sym next.1) ∙ ap (λ xs. any_at (is_open set number) set (all_up set xs)) (append_none (supers set next.0)) ∙ rest next.0 next.1

one_step : (set : List ClassDef) (ranks : List ℕ) (number at : ℕ) → Ranked set ranks → open_at set number at ≡ false → ((next : ℕ) → next ∷ [] ≡ super_at set at → Clean set number next) → Clean set number at
one_step set ranks number at r here rest =
    walk_on (is_open set number) set (supers set at) at (flat_map (supers set) (super_at set at)) (open_at set number at) (supers_law set ranks r at) refl
    ∙ ap (λ b. b || any_at (is_open set number) set (all_up set (flat_map (supers set) (super_at set at)))) here
    ∙ way_by set number at (super_found set (slice_get set at)) rest

below_next : (set : List ClassDef) (ranks : List ℕ) (number at next : ℕ) → Ranked set ranks → next ∷ [] ≡ super_at set at → concrete_at set next ≡ false → open_below set number (flat_map (supers set) (super_at set at)) ≡ false → (open_at set number next || open_below set number (classes_above set next)) ≡ false
below_next set ranks number at next r e other below =
    let way = ap (flat_map (supers set)) (sym e) ∙ append_none (supers set next) ∙ supers_law set ranks r next in
    sym (ap (λ b. cond b false (open_at set number next || open_below set number (classes_above set next))) other) ∙ sym (ap (open_below set number) way) ∙ below

clean_up : (set : List ClassDef) (ranks : List ℕ) → Ranked set ranks → NoneNew set → (k number at : ℕ) → length (supers set at) ≤ k → ((method : MethodDef) → is_open set number method ≡ true → is_open set at method ≡ true) → open_at set number at ≡ false → open_below set number (classes_above set at) ≡ false → Clean set number at
clean_up set ranks r new zero number at le q here below = one_step set ranks number at r here (λ next e. absurd (omega (arith, shorter set ranks at next r e, le)))
clean_up set ranks r new (suc k) number at le q here below =
    one_step set ranks number at r here (λ next e.
    let fewer : length (supers set next) ≤ k = omega (arith, shorter set ranks at next r e, le) in
    let on = λ (method : MethodDef) (t : is_open set number method ≡ true). open_next set ranks number at next r e (or_first (list_any (is_open set number) (methods_of set at)) _ here) method t (q method t) in
    let by : (b : Bool) → concrete_at set next ≡ b → Clean set number next = λ b is.
    elim b as (λ v. concrete_at set next ≡ v → Clean set number next) [
      | true ↦ λ concrete.
          let own = new next concrete in
          none_by (is_open set number) (is_open set next) (methods_at set (all_up set (supers set next))) on
          (clean_up set ranks r new k next next fewer (λ method t. t) (or_first (open_at set next next) _ own) (or_second (open_at set next next) _ own))
      | false ↦ λ other.
          let both = below_next set ranks number at next r e other below in
          clean_up set ranks r new k number next fewer on (or_first (open_at set number next) _ both) (or_second (open_at set number next) _ both)
    ] is in
    by (concrete_at set next) refl)

-- the classes of a set, judged in turn
told_no : (b : Bool) (name : List ℕ) (rest : Option (List ℕ)) → option_or (cond b (Some name) None) rest ≡ None → (b ≡ false) × (rest ≡ None)
told_no true name rest e = absurd cc
told_no false name rest e = (refl, e)

each_false : (test : ℕ → ClassDef → Bool) (at : ℕ) (set : List ClassDef) → first_from (name_if test) at set ≡ None → (k number : ℕ) (class : ClassDef) → number ≡ at + k → slice_get set k ≡ Some class → test number class ≡ false
unfolding first_from
each_false test at [] none k number class e is = absurd cc
each_false test at (other ∷ set) none zero number class e is =
    let here = told_no (test at other) other.name (first_from (name_if test) (at + 1) set) none in
    ap (λ n. test n class) (omega (arith, e)) ∙ ap (test at) (sym (same_Some other class is)) ∙ here.0
each_false test at (other ∷ set) none (suc k) number class e is =
    let here = told_no (test at other) other.name (first_from (name_if test) (at + 1) set) none in
    each_false test (at + 1) set here.1 k number class (omega (arith, e)) is

all_false : (test : ℕ → ClassDef → Bool) (at : ℕ) (set : List ClassDef) → ((k number : ℕ) (class : ClassDef) → number ≡ at + k → slice_get set k ≡ Some class → test number class ≡ false) → first_from (name_if test) at set ≡ None
unfolding first_from
all_false test at [] h = refl
all_false test at (class ∷ set) h =
    ap (λ b. option_or (cond b (Some class.name) None) (first_from (name_if test) (at + 1) set)) (h 0 at class (omega arith) refl)
    ∙ all_false test (at + 1) set (λ k number other e is. h (suc k) number other (omega (arith, e)) is)

none_new_by : (set : List ClassDef) → newly_left set ≡ None → (number : ℕ) (found : Option ClassDef) → slice_get set number ≡ found → holds_of is_concrete found ≡ true → (open_at set number number || open_below set number (classes_above set number)) ≡ false
unfolding newly_left
none_new_by set none number None is t = absurd (false≢true t)
none_new_by set none number (Some class) is t =
    let own = open_at set number number || open_below set number (classes_above set number) in
    sym (ap (λ b. b && own) t) ∙ each_false (leaves_new_open set) 0 set none number number class (omega arith) is

closed_by : (set : List ClassDef) (ranks : List ℕ) → Ranked set ranks → NoneNew set → (number : ℕ) (class : ClassDef) (b : Bool) → is_concrete class ≡ b → slice_get set number ≡ Some class → leaves_open set number class ≡ false
closed_by set ranks r new number class false e is = ap (λ b. b && list_any (is_open set number) (methods_at set (supers set number ++ superinterfaces set number))) e
closed_by set ranks r new number class true e is =
    let own = new number (ap (holds_of is_concrete) is ∙ e) in
    ap (λ b. b && list_any (is_open set number) (methods_at set (supers set number ++ superinterfaces set number))) e ∙ sym (whole_way (is_open set number) set number)
    ∙ clean_up set ranks r new (length (supers set number)) number number (omega arith) (λ method t. t) (or_first (open_at set number number) _ own) (or_second (open_at set number number) _ own)

pub none_left : (set : List ClassDef) → AreRanked set → newly_left set ≡ None → abstract_left set ≡ None
unfolding abstract_left
none_left set ranked none =
    all_false (leaves_open set) 0 set (λ k number class e is.
    let at : slice_get set number ≡ Some class = subst (λ n. slice_get set n ≡ Some class) (omega (arith, e)) is in
    closed_by set ranked.0 ranked.1 (λ other t. none_new_by set none other (slice_get set other) refl t) number class (is_concrete class) refl at)
