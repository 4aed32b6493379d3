-- Sets in which no name comes twice.
use Rattle.std.proofs.Common.{◌≡◌, ◌∙◌, ℕ, Bool, true, false, cond, ◌||◌, List, [], ◌∷◌, ◌++◌, refl, ap, Option, Some, None}
use Rattle.std.specs.List.{list_any, AllByRecursion}
use Rattle.std.specs.Cmp.Lexicographic.{nat_list_eq_equiv}
use Rattle.class_model.specs.declared.class.ClassDef.{ClassDef}
use Rattle.set_lookups.specs.Above.{same_name}
use Rattle.set_lookups.specs.Needed.{first_again, duplicate}
use Rattle.set_lookups.proofs.Names.{names_of}
use Rattle.set_lookups.specs.SameTypes.{name_true}
use Rattle.first_form_laws.proofs.Tests.{not_either, neither}

abbrev pub NoneTwice : List ClassDef → Type 0
NoneTwice set = first_again (names_of set) ≡ None

-- a name does not come again, and none behind it does
not_again : (b : Bool) (name : List ℕ) (rest : Option (List ℕ)) → cond b (Some name) rest ≡ None → (b ≡ false) × (rest ≡ None)
not_again true name rest h = absurd cc
not_again false name rest h = (refl, h)

not_at_front : (class : ClassDef) (set : List ClassDef) → NoneTwice (class ∷ set) → (list_any (same_name class.name) (names_of set) ≡ false) × NoneTwice set
unfolding first_again
not_at_front class set h = not_again (list_any (same_name class.name) (names_of set)) class.name (first_again (names_of set)) h

more_once : (class : ClassDef) (set : List ClassDef) → list_any (same_name class.name) (names_of set) ≡ false → NoneTwice set → NoneTwice (class ∷ set)
unfolding first_again
more_once class set e h = (λ i. cond (e i) (Some class.name) (first_again (names_of set))) ∙ h

pub different : (front back : List ClassDef) (class next : ClassDef) → NoneTwice (front ++ class ∷ next ∷ back) → same_name class.name next.name ≡ false
different [] back class next h = (not_either (same_name class.name next.name) (list_any (same_name class.name) (names_of back)) (not_at_front class (next ∷ back) h).0).0
different (other ∷ front) back class next h = different front back class next (not_at_front other (front ++ class ∷ next ∷ back) h).1

pub two_names : (class next : ClassDef) (name : List ℕ) → same_name class.name next.name ≡ false → same_name class.name name ≡ true → same_name next.name name ≡ true → ⊥
two_names class next name e f g =
    let same : same_name class.name next.name ≡ true = ap (same_name class.name) (name_true next.name name g) ∙ f in cc

or_swapped : (a b c : Bool) → (a || (b || c)) ≡ (b || (a || c))
or_swapped true true c = refl
or_swapped true false c = refl
or_swapped false b c = refl

any_swapped : (test : List ℕ → Bool) (front back : List ClassDef) (class next : ClassDef) → list_any test (names_of (front ++ next ∷ class ∷ back)) ≡ list_any test (names_of (front ++ class ∷ next ∷ back))
any_swapped test [] back class next = or_swapped (test next.name) (test class.name) (list_any test (names_of back))
any_swapped test (other ∷ front) back class next = ap (λ b. test other.name || b) (any_swapped test front back class next)

pub turned : (xs ys : List ℕ) → same_name xs ys ≡ false → same_name ys xs ≡ false
turned xs ys h = nat_list_eq_equiv.symm ys xs ∙ h

once_swapped : (front back : List ClassDef) (class next : ClassDef) → NoneTwice (front ++ class ∷ next ∷ back) → NoneTwice (front ++ next ∷ class ∷ back)
once_swapped [] back class next h =
    let first = not_at_front class (next ∷ back) h in
    let second = not_at_front next back first.1 in
    let apart = not_either (same_name class.name next.name) (list_any (same_name class.name) (names_of back)) first.0 in
    more_once next (class ∷ back) (neither (same_name next.name class.name) (list_any (same_name next.name) (names_of back)) (turned class.name next.name apart.0) second.0) (more_once class back apart.1 second.1)
once_swapped (other ∷ front) back class next h =
    let before = not_at_front other (front ++ class ∷ next ∷ back) h in
    more_once other (front ++ next ∷ class ∷ back) (any_swapped (same_name other.name) front back class next ∙ before.0) (once_swapped front back class next before.1)

pub distinct_swapped : (front back : List ClassDef) (class next : ClassDef) → duplicate (front ++ class ∷ next ∷ back) ≡ None → duplicate (front ++ next ∷ class ∷ back) ≡ None
unfolding duplicate
distinct_swapped front back class next h = once_swapped front back class next h

-- ---- one more class behind the others

any_last : (test : List ℕ → Bool) (set : List ClassDef) (class : ClassDef) → list_any test (names_of set) ≡ false → test class.name ≡ false → list_any test (names_of (set ++ class ∷ [])) ≡ false
any_last test [] class e f = neither (test class.name) false f refl
any_last test (other ∷ set) class e f =
    let h = not_either (test other.name) (list_any test (names_of set)) e in
    neither (test other.name) (list_any test (names_of (set ++ class ∷ []))) h.0 (any_last test set class h.1 f)

once_last : (set : List ClassDef) (class : ClassDef) → NoneTwice set → AllByRecursion (λ other. same_name other.name class.name ≡ false) set → NoneTwice (set ++ class ∷ [])
unfolding first_again
once_last [] class h apart = refl
once_last (other ∷ set) class h apart =
    let before = not_at_front other set h in
    more_once other (set ++ class ∷ []) (any_last (same_name other.name) set class before.0 apart.0) (once_last set class before.1 apart.1)

pub distinct_last : (set : List ClassDef) (class : ClassDef) → duplicate set ≡ None → AllByRecursion (λ other. same_name other.name class.name ≡ false) set → duplicate (set ++ class ∷ []) ≡ None
unfolding duplicate
distinct_last set class h apart = once_last set class h apart
