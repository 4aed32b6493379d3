-- Whether some class passes a test, level by level.
use Rattle.std.proofs.Common.{◌≡◌, ◌∙◌, ℕ, ◌||◌, zero, suc, Bool, true, false, List, [], ◌∷◌, ◌++◌, refl, sym, ap}
use Rattle.std.specs.Prelude.{flat_map}
use Rattle.std.specs.List.{list_any}
use Rattle.std.proofs.lemmas.Grind.{flat_map-append}
use Rattle.std.proofs.lemmas.List.Folds.{list_any-append}
use Rattle.class_model.specs.declared.class.ClassDef.{ClassDef}
use Rattle.set_lookups.specs.Above.{above}
use Rattle.set_lookups.specs.Levels.{once, any_levels}
use Rattle.set_lookups.specs.Lookups.{interfaces_at, levels}
use Rattle.set_lookups.specs.Meets.{meets}
use Rattle.set_lookups.proofs.Once.{any_once}

pub or_cross : (a b c d : Bool) → ((a || b) || (c || d)) ≡ ((a || c) || (b || d))
or_cross true b c d = refl
or_cross false true true d = refl
or_cross false true false d = refl
or_cross false false c d = refl

levels_append : (steps : ℕ) (up : ℕ → List ℕ) (test : ℕ → Bool) (xs ys : List ℕ) → any_levels steps up test (xs ++ ys) ≡ (any_levels steps up test xs || any_levels steps up test ys)
levels_append zero up test xs ys = list_any-append test xs ys
levels_append (suc steps) up test xs ys =
    ap (λ b. b || any_levels steps up test (flat_map up (xs ++ ys))) (list_any-append test xs ys)
    ∙ ap (λ b. (list_any test xs || list_any test ys) || b) (ap (any_levels steps up test) (flat_map-append up xs ys) ∙ levels_append steps up test (flat_map up xs) (flat_map up ys))
    ∙ or_cross (list_any test xs) (list_any test ys) (any_levels steps up test (flat_map up xs)) (any_levels steps up test (flat_map up ys))

levels_none : (steps : ℕ) (up : ℕ → List ℕ) (test : ℕ → Bool) → any_levels steps up test [] ≡ false
levels_none zero up test = refl
levels_none (suc steps) up test = levels_none steps up test

one : ℕ → (ℕ → List ℕ) → (ℕ → Bool) → ℕ → Bool
one steps up test x = any_levels steps up test (x ∷ [])

each : (steps : ℕ) (up : ℕ → List ℕ) (test : ℕ → Bool) (xs : List ℕ) → any_levels steps up test xs ≡ list_any (one steps up test) xs
unfolding one
each steps up test [] = levels_none steps up test
each steps up test (x ∷ xs) = levels_append steps up test (x ∷ []) xs ∙ ap (λ b. any_levels steps up test (x ∷ []) || b) (each steps up test xs)

pub levels_once : (steps : ℕ) (up : ℕ → List ℕ) (test : ℕ → Bool) (xs : List ℕ) → any_levels steps up test (once [] xs) ≡ any_levels steps up test xs
levels_once steps up test xs = each steps up test (once [] xs) ∙ any_once (one steps up test) [] xs ∙ sym (each steps up test xs)

-- levels, one by one
pub level_holds : (left : ℕ) (up : ℕ → List ℕ) (test : ℕ → Bool) (xs : List ℕ) → list_any test xs ≡ true → any_levels left up test xs ≡ true
level_holds zero up test xs t = t
level_holds (suc left) up test xs t = ap (λ b. b || any_levels left up test (flat_map up xs)) t

pub level_fails : (left below : ℕ) (up : ℕ → List ℕ) (test : ℕ → Bool) (xs next : List ℕ) → left ≡ suc below → list_any test xs ≡ false → next ≡ once [] (flat_map up xs) → any_levels left up test xs ≡ any_levels below up test next
level_fails left below up test xs next e none is =
    ap (λ n. any_levels n up test xs) e ∙ ap (λ b. b || any_levels below up test (flat_map up xs)) none ∙ sym (levels_once below up test (flat_map up xs)) ∙ ap (any_levels below up test) (sym is)

pub level_ends : (left : ℕ) (up : ℕ → List ℕ) (test : ℕ → Bool) (xs : List ℕ) → left ≡ 0 → any_levels left up test xs ≡ list_any test xs
level_ends left up test xs e = ap (λ n. any_levels n up test xs) e

pub level_lacks : (left : ℕ) (up : ℕ → List ℕ) (test : ℕ → Bool) (xs : List ℕ) → xs ≡ [] → any_levels left up test xs ≡ false
level_lacks left up test xs e = ap (any_levels left up test) e ∙ levels_none left up test

-- the same along a definition's lists
pub levels_list : (steps : ℕ) (set : List ClassDef) (test : ℕ → Bool) (xs : List ℕ) → any_levels steps (interfaces_at set) test xs ≡ list_any test (levels steps set xs)
unfolding levels
levels_list zero set test xs = refl
levels_list (suc steps) set test xs =
    ap (λ b. list_any test xs || b) (levels_list steps set test (flat_map (interfaces_at set) xs)) ∙ sym (list_any-append test xs (levels steps set (flat_map (interfaces_at set) xs)))

each_meets : (steps : ℕ) (set : List ClassDef) (test : ℕ → Bool) (xs : List ℕ) → (list_any test xs || list_any (meets steps set test) (flat_map (above set) xs)) ≡ list_any (meets (suc steps) set test) xs
each_meets steps set test [] = refl
each_meets steps set test (x ∷ xs) =
    ap (λ b. (test x || list_any test xs) || b) (list_any-append (meets steps set test) (above set x) (flat_map (above set) xs))
    ∙ or_cross (test x) (list_any test xs) (list_any (meets steps set test) (above set x)) (list_any (meets steps set test) (flat_map (above set) xs))
    ∙ ap (λ b. (test x || list_any (meets steps set test) (above set x)) || b) (each_meets steps set test xs)

pub levels_meet : (steps : ℕ) (set : List ClassDef) (test : ℕ → Bool) (xs : List ℕ) → any_levels steps (above set) test xs ≡ list_any (meets steps set test) xs
levels_meet zero set test xs = refl
levels_meet (suc steps) set test xs = ap (λ b. list_any test xs || b) (levels_meet steps set test (flat_map (above set) xs)) ∙ each_meets steps set test xs
