-- The names of classes, taken from the last one on.
use Rattle.std.proofs.Common.{◌≡◌, ◌∙◌, ℕ, ◌+◌, ◌<◌, ◌≤◌, ◌||◌, Bool, true, false, cond, not, List, [], ◌∷◌, ◌++◌, map, reverse, length, drop, take, get_or, refl, sym, ap, subst, Option, Some, None, arith}
use Rattle.std.specs.Prelude.{is_some, position, filter_map}
use Rattle.std.specs.List.{list_any, position_from, cons_option}
use Rattle.std.proofs.lemmas.List.{at_drop_more, drop_all, take_more}
use Rattle.std.proofs.lemmas.List.Elements.{filter_map-append}
use Rattle.std.proofs.lemmas.Grind.{reverse_onto}
use Rattle.std.proofs.lemmas.List.Folds.{list_any-append}
use Rattle.std.proofs.lemmas.Iterator.Adapters.{position_from-zero}
use Rattle.class_model.specs.declared.class.ClassDef.{ClassDef}
use Rattle.indexmap.specs.IndexSet.{insert_key}
use Rattle.set_lookups.specs.Above.{same_name, find_class}
use Rattle.set_lookups.specs.First.{first}
use Rattle.set_lookups.specs.Needed.{first_again, if_absent, if_missing}
use Rattle.set_lookups.proofs.Lists.{first_alike}
use Rattle.set_lookups.proofs.Index.{place_in_names}
use Rattle.set_lookups.specs.SameTypes.{name_true}

abbrev pub names_of : List ClassDef → List (List ℕ)
names_of set = map (λ class. class.name) set

pub one_more_name : (set : List ClassDef) (i j : ℕ) (class : ClassDef) → j ≡ i + 1 → i < length set → names_of (drop i set) ≡ (get_or set i class).name ∷ names_of (drop j set)
one_more_name set i j class e lt = at_drop_more names_of set i class lt ∙ ap (λ k. (get_or set i class).name ∷ names_of (drop k set)) (sym e)

pub told_more : (name : List ℕ) (rest keys : List (List ℕ)) (again told : Option (List ℕ)) → ((x : List ℕ) → list_any (same_name x) keys ≡ list_any (same_name x) rest) → again ≡ first_again rest → told ≡ cond (list_any (same_name name) keys) (Some name) again → told ≡ first_again (name ∷ rest)
unfolding first_again
told_more name rest keys again told members before e = e ∙ ap (λ b. cond b (Some name) again) (members name) ∙ ap (λ a. cond (list_any (same_name name) rest) (Some name) a) before

or_absorbed : (a b : Bool) → (a ≡ true → b ≡ true) → b ≡ (a || b)
or_absorbed true b h = h refl
or_absorbed false b h = refl

or_turn : (a b : Bool) → (a || (b || false)) ≡ (b || a)
or_turn true true = refl
or_turn true false = refl
or_turn false true = refl
or_turn false false = refl

any_by : (b : Bool) (name : List ℕ) (rest keys : List (List ℕ)) (x : List ℕ) → list_any (same_name name) keys ≡ b → ((y : List ℕ) → list_any (same_name y) keys ≡ list_any (same_name y) rest) → list_any (same_name x) (cond b keys (keys ++ name ∷ [])) ≡ list_any (same_name x) (name ∷ rest)
any_by true name rest keys x e members =
    members x ∙ or_absorbed (same_name x name) (list_any (same_name x) rest) (λ t. sym (members x) ∙ subst (λ n. list_any (same_name n) keys ≡ true) (sym (name_true x name t)) e)
any_by false name rest keys x e members =
    list_any-append (same_name x) keys (name ∷ []) ∙ ap (λ b. b || (same_name x name || false)) (members x) ∙ or_turn (list_any (same_name x) rest) (same_name x name)

pub members_more : (name : List ℕ) (rest keys after : List (List ℕ)) → after ≡ insert_key same_name keys name → ((y : List ℕ) → list_any (same_name y) keys ≡ list_any (same_name y) rest) → (x : List ℕ) → list_any (same_name x) after ≡ list_any (same_name x) (name ∷ rest)
members_more name rest keys after e members x = ap (list_any (same_name x)) e ∙ any_by (list_any (same_name name) keys) name rest keys x refl members

kept_by : (b : Bool) (name : List ℕ) (rest keys : List (List ℕ)) → cond b (Some name) (first_again rest) ≡ None → (first_again rest ≡ None → keys ≡ reverse rest) → cond b keys (keys ++ name ∷ []) ≡ reverse rest ++ name ∷ []
kept_by true name rest keys none kept = cc
kept_by false name rest keys none kept = ap (λ ks. ks ++ name ∷ []) (kept none)

pub kept_more : (name : List ℕ) (rest keys after : List (List ℕ)) → after ≡ insert_key same_name keys name → ((y : List ℕ) → list_any (same_name y) keys ≡ list_any (same_name y) rest) → (first_again rest ≡ None → keys ≡ reverse rest) → first_again (name ∷ rest) ≡ None → after ≡ reverse (name ∷ rest)
unfolding first_again
kept_more name rest keys after e members kept none =
    e ∙ kept_by (list_any (same_name name) keys) name rest keys (ap (λ b. cond b (Some name) (first_again rest)) (members name) ∙ none) kept ∙ sym (reverse_onto rest name [])

-- a name that is not among those of the classes
some_by : (b : Bool) (i : ℕ) (rest : Option ℕ) → is_some (cond b (Some i) rest) ≡ (b || is_some rest)
some_by true i rest = refl
some_by false i rest = refl

is_some_from : {A : Type 0} (test : A → Bool) (i : ℕ) (xs : List A) → is_some (position_from test i xs) ≡ list_any test xs
is_some_from test i [] = refl
is_some_from test i (x ∷ xs) = some_by (test x) i (position_from test (i + 1) xs) ∙ ap (λ b. test x || b) (is_some_from test (i + 1) xs)

pub is_some-position : {A : Type 0} (test : A → Bool) (xs : List A) → is_some (position test xs) ≡ list_any test xs
is_some-position test xs = ap is_some (position_from-zero test xs) ∙ is_some_from test 0 xs

pub no_names : (set : List ClassDef) (i : ℕ) → length set ≤ i → names_of (drop i set) ≡ []
no_names set i le = ap names_of (drop_all i set le)

absent_by : (b some : Bool) (name : List ℕ) → some ≡ b → cond b None (Some name) ≡ cond (not some) (Some name) None
absent_by true some name e = sym (ap (λ c. cond (not c) (Some name) None) e)
absent_by false some name e = sym (ap (λ c. cond (not c) (Some name) None) e)

pub absent_is_missing : (set : List ClassDef) (keys : List (List ℕ)) (name : List ℕ) → keys ≡ names_of set → if_absent keys name ≡ if_missing set name
absent_is_missing set keys name e =
    ap (λ ks. if_absent ks name) e
    ∙ absent_by (list_any (same_name name) (names_of set)) (is_some (find_class set name)) name (sym (ap is_some (place_in_names set name)) ∙ is_some-position (same_name name) (names_of set))

pub missing_of_absent : (set : List ClassDef) (keys : List (List ℕ)) (names : List (List ℕ)) → keys ≡ names_of set → first (if_absent keys) names ≡ first (if_missing set) names
missing_of_absent set keys names e = first_alike (if_absent keys) (if_missing set) names (λ k name _. absent_is_missing set keys name e)

pub le_zero : {n : ℕ} → n ≤ 0 → n ≡ 0
le_zero {n} h = omega (arith, h)

-- the numbers of names so far
pub filter_more : {A B : Type 0} (h : A → Option B) (xs : List A) (i : ℕ) (x : A) (more : List B) → i < length xs → cons_option (h (get_or xs i x)) [] ≡ more → filter_map h (take (i + 1) xs) ≡ filter_map h (take i xs) ++ more
filter_more h xs i x more lt e = ap (filter_map h) (take_more xs i x lt) ∙ filter_map-append h (take i xs) (get_or xs i x ∷ []) ∙ ap (λ ys. filter_map h (take i xs) ++ ys) e
