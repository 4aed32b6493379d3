-- What some method has among those of superinterfaces, level by level.
use Rattle.std.proofs.Common.{◌≡◌, ◌∙◌, ℕ, ◌+◌, ◌<◌, ◌≤◌, ◌||◌, zero, suc, Bool, true, false, List, [], ◌∷◌, ◌++◌, length, drop, get_or, refl, sym, ap}
use Rattle.std.specs.Prelude.{flat_map}
use Rattle.std.specs.List.{list_any}
use Rattle.std.proofs.lemmas.Grind.{flat_map-append}
use Rattle.std.proofs.lemmas.List.{at_drop_more, at_drop_all}
use Rattle.class_model.specs.declared.class.MethodDef.{MethodDef}
use Rattle.class_model.specs.declared.class.ClassDef.{ClassDef}
use Rattle.set_lookups.specs.Lookups.{interfaces_at, levels, supers, superinterfaces}
use Rattle.class_set.specs.FinalSuper.{methods_at}
use Rattle.class_set.specs.Upwards.{methods_of}
use Rattle.class_set.proofs.Upwards.{one_more, append_none}

-- some method of these classes passes a test
abbrev pub any_at : (MethodDef → Bool) → List ClassDef → List ℕ → Bool
any_at test set numbers = list_any test (methods_at set numbers)

or_none : (b : Bool) → (b || false) ≡ b
or_none true = refl
or_none false = refl

or_assoc : (a b c : Bool) → ((a || b) || c) ≡ (a || (b || c))
or_assoc true b c = refl
or_assoc false b c = refl

or_cross : (a b c d : Bool) → ((a || b) || (c || d)) ≡ ((a || c) || (b || d))
or_cross true b c d = refl
or_cross false true true d = refl
or_cross false true false d = refl
or_cross false false c d = refl

any_at-append : (test : MethodDef → Bool) (set : List ClassDef) (xs ys : List ℕ) → any_at test set (xs ++ ys) ≡ (any_at test set xs || any_at test set ys)
any_at-append test set [] ys = refl
any_at-append test set (x ∷ xs) ys =
    one_more test set x (xs ++ ys) ∙ ap (λ b. list_any test (methods_of set x) || b) (any_at-append test set xs ys)
    ∙ sym (or_assoc (list_any test (methods_of set x)) (any_at test set xs) (any_at test set ys)) ∙ ap (λ b. b || any_at test set ys) (sym (one_more test set x xs))

-- some method of these classes, or of the superinterfaces in so many levels above them
abbrev pub any_up : (MethodDef → Bool) → ℕ → List ClassDef → List ℕ → Bool
any_up test steps set numbers = any_at test set (levels steps set numbers)

both_up : (test : MethodDef → Bool) (steps : ℕ) (set : List ClassDef) (xs ys : List ℕ) → any_up test steps set (xs ++ ys) ≡ (any_up test steps set xs || any_up test steps set ys)
unfolding levels
both_up test zero set xs ys = any_at-append test set xs ys
both_up test (suc steps) set xs ys =
    let above = flat_map (interfaces_at set) in
    any_at-append test set (xs ++ ys) (levels steps set (above (xs ++ ys)))
    ∙ ap (λ b. b || any_up test steps set (above (xs ++ ys))) (any_at-append test set xs ys)
    ∙ ap (λ b. (any_at test set xs || any_at test set ys) || b) (ap (any_up test steps set) (flat_map-append (interfaces_at set) xs ys) ∙ both_up test steps set (above xs) (above ys))
    ∙ or_cross (any_at test set xs) (any_at test set ys) (any_up test steps set (above xs)) (any_up test steps set (above ys))
    ∙ ap (λ b. b || (any_at test set ys || any_up test steps set (above ys))) (sym (any_at-append test set xs (levels steps set (above xs))))
    ∙ ap (λ b. any_up test (suc steps) set xs || b) (sym (any_at-append test set ys (levels steps set (above ys))))

none_up : (test : MethodDef → Bool) (steps : ℕ) (set : List ClassDef) → any_up test steps set [] ≡ false
unfolding levels
none_up test zero set = refl
none_up test (suc steps) set = none_up test steps set

-- classes that have a method of the kind
pub any_of_methods : (test : MethodDef → Bool) (set : List ClassDef) (numbers : List ℕ) → list_any (λ number. list_any test (methods_of set number)) numbers ≡ list_any test (methods_at set numbers)
any_of_methods test set [] = refl
any_of_methods test set (number ∷ numbers) = ap (λ b. list_any test (methods_of set number) || b) (any_of_methods test set numbers) ∙ sym (one_more test set number numbers)

-- classes and what is above them
abbrev pub all_up : List ClassDef → List ℕ → List ℕ
all_up set numbers = numbers ++ levels (length set) set (flat_map (interfaces_at set) numbers)

pub all_from : (set : List ClassDef) (number : ℕ) → supers set number ++ superinterfaces set number ≡ all_up set (supers set number)
unfolding superinterfaces
all_from set number = refl

pub next_up : (test : MethodDef → Bool) (set : List ClassDef) (number : ℕ) (numbers : List ℕ) → any_at test set (all_up set (number ∷ numbers)) ≡ ((list_any test (methods_of set number) || any_up test (length set) set (interfaces_at set number)) || any_at test set (all_up set numbers))
next_up test set number numbers =
    let above = flat_map (interfaces_at set) in
    any_at-append test set (number ∷ numbers) (levels (length set) set (above (number ∷ numbers)))
    ∙ ap (λ b. b || any_up test (length set) set (above (number ∷ numbers))) (one_more test set number numbers)
    ∙ ap (λ b. (list_any test (methods_of set number) || any_at test set numbers) || b) (both_up test (length set) set (interfaces_at set number) (above numbers))
    ∙ or_cross (list_any test (methods_of set number)) (any_at test set numbers) (any_up test (length set) set (interfaces_at set number)) (any_up test (length set) set (above numbers))
    ∙ ap (λ b. (list_any test (methods_of set number) || any_up test (length set) set (interfaces_at set number)) || b) (sym (any_at-append test set numbers (levels (length set) set (above numbers))))

pub none_above : (test : MethodDef → Bool) (set : List ClassDef) → any_at test set (all_up set []) ≡ false
none_above test set = none_up test (length set) set

-- a class of a way up, where all of it is judged by what it has from itself and from its interfaces
pub walk_on : (test : MethodDef → Bool) (set : List ClassDef) (walk : List ℕ) (number : ℕ) (rest : List ℕ) (here : Bool) → walk ≡ number ∷ rest → here ≡ (list_any test (methods_of set number) || any_up test (length set) set (interfaces_at set number)) → any_at test set (all_up set walk) ≡ (here || any_at test set (all_up set rest))
walk_on test set walk number rest here e same = ap (λ xs. any_at test set (all_up set xs)) e ∙ next_up test set number rest ∙ ap (λ b. b || any_at test set (all_up set rest)) (sym same)

pub walk_over : (test : MethodDef → Bool) (set : List ClassDef) (walk : List ℕ) → walk ≡ [] → any_at test set (all_up set walk) ≡ false
walk_over test set walk e = ap (λ xs. any_at test set (all_up set xs)) e ∙ none_above test set

pub whole_way : (test : MethodDef → Bool) (set : List ClassDef) (number : ℕ) → any_at test set (all_up set (supers set number)) ≡ any_at test set (supers set number ++ superinterfaces set number)
whole_way test set number = ap (any_at test set) (sym (all_from set number))
