-- The first member along the superinterfaces, level by level.
use Rattle.std.proofs.Common.{◌≡◌, ◌∙◌, ℕ, ◌+◌, zero, suc, Bool, true, false, cond, ltb, List, [], ◌∷◌, ◌++◌, length, refl, sym, ap, Option, Some, None, arith, eqb, eqb-true, ◌||◌, add-zero}
use Rattle.std.specs.Prelude.{flat_map, option_map, option_to_list, nat_eq, is_some}
use Rattle.std.specs.Option.{option_or}
use Rattle.std.specs.List.{list_any}
use Rattle.std.proofs.lemmas.Bool.{ltb-true, ltb-false, lt-ltb, le-ltb}
use Rattle.std.proofs.lemmas.Grind.{flat_map-append}
use Rattle.indexmap.specs.IndexSet.{insert_key}
use Rattle.class_model.specs.declared.class.ClassDef.{ClassDef}
use Rattle.set_lookups.specs.declared.near.Near.{Near}
use Rattle.set_lookups.specs.First.{first}
use Rattle.set_lookups.specs.Level.{here, raised, lifted, closer, nearest}
use Rattle.set_lookups.specs.Levels.{once}
use Rattle.set_lookups.specs.Lookups.{Member, interfaces_at, super_at, supers, levels, superinterfaces}
use Rattle.set_lookups.specs.Rows.{Ranked}
use Rattle.set_lookups.proofs.Lists.{first_append}
use Rattle.set_lookups.proofs.UpPieces.{up_pieces, top_pieces}

-- the nearer of two
some_closer : (a b : Near) (v : Bool) → ltb b.level a.level ≡ v → closer (Some a) (Some b) ≡ cond v (Some b) (Some a)
some_closer a b v e = ap (λ t. cond t (Some b) (Some a)) e

three : (a b c : Near) (p q : Bool) → ltb b.level a.level ≡ p → ltb c.level b.level ≡ q → closer (cond p (Some b) (Some a)) (Some c) ≡ closer (Some a) (cond q (Some c) (Some b))
three a b c true true e f =
    let x = ltb-true b.level a.level e in
    let y = ltb-true c.level b.level f in
    some_closer b c true f ∙ sym (some_closer a c true (lt-ltb c.level a.level (omega (arith, x, y))))
three a b c true false e f = some_closer b c false f ∙ sym (some_closer a b true e)
three a b c false true e f = refl
three a b c false false e f =
    let x = ltb-false b.level a.level e in
    let y = ltb-false c.level b.level f in
    some_closer a c false (le-ltb c.level a.level (omega (arith, x, y))) ∙ sym (some_closer a b false e)

pub none_closer : (a : Option Near) → closer None a ≡ a
none_closer None = refl
none_closer (Some a) = refl

pub closer_assoc : (a b c : Option Near) → closer (closer a b) c ≡ closer a (closer b c)
closer_assoc a b None = refl
closer_assoc a None (Some c) = refl
closer_assoc None (Some b) (Some c) = sym (none_closer (closer (Some b) (Some c)))
closer_assoc (Some a) (Some b) (Some c) = three a b c (ltb b.level a.level) (ltb c.level b.level) refl refl

-- what is seen from a level below
up_one : (a b : Near) (v : Bool) → ltb b.level a.level ≡ v → raised (cond v (Some b) (Some a)) ≡ closer (raised (Some a)) (raised (Some b))
up_one a b true e = sym (ap (λ t. cond t (raised (Some b)) (raised (Some a))) (lt-ltb (suc b.level) (suc a.level) (omega (arith, ltb-true b.level a.level e))))
up_one a b false e = sym (ap (λ t. cond t (raised (Some b)) (raised (Some a))) (le-ltb (suc b.level) (suc a.level) (omega (arith, ltb-false b.level a.level e))))

raised_closer : (a b : Option Near) → raised (closer a b) ≡ closer (raised a) (raised b)
raised_closer a None = refl
raised_closer None (Some b) = refl
raised_closer (Some a) (Some b) = up_one a b (ltb b.level a.level) refl

-- one found at once is the nearest
found_closer : (x : Member) (b : Option Near) → closer (here (Some x)) b ≡ here (Some x)
found_closer x None = refl
found_closer x (Some b) = ap (λ t. cond t (Some b) (here (Some x))) (le-ltb b.level 0 (omega arith))

later_closer : (a : Option Near) (y : Member) → closer (raised a) (here (Some y)) ≡ here (Some y)
later_closer None y = refl
later_closer (Some a) y = ap (λ t. cond t (here (Some y)) (raised (Some a))) (lt-ltb 0 (suc a.level) (omega arith))

here_or : (a b : Option Member) → here (option_or a b) ≡ closer (here a) (here b)
here_or None b = sym (none_closer (here b))
here_or (Some x) b = sym (found_closer x (here b))

step_closer : (a b : Option Member) (m n : Option Near) → option_or (here (option_or a b)) (raised (closer m n)) ≡ closer (option_or (here a) (raised m)) (option_or (here b) (raised n))
step_closer (Some x) b m n = sym (found_closer x (option_or (here b) (raised n)))
step_closer None (Some y) m n = sym (later_closer m y)
step_closer None None m n = raised_closer m n

pub nearest_append : (steps : ℕ) (up : ℕ → List ℕ) (f : ℕ → Option Member) (xs ys : List ℕ) → nearest steps up f (xs ++ ys) ≡ closer (nearest steps up f xs) (nearest steps up f ys)
unfolding nearest
nearest_append zero up f xs ys = ap here (first_append f xs ys) ∙ here_or (first f xs) (first f ys)
nearest_append (suc steps) up f xs ys =
    ap (λ a. option_or (here a) (raised (nearest steps up f (flat_map up (xs ++ ys))))) (first_append f xs ys)
    ∙ ap (λ m. option_or (here (option_or (first f xs) (first f ys))) (raised m)) (ap (nearest steps up f) (flat_map-append up xs ys) ∙ nearest_append steps up f (flat_map up xs) (flat_map up ys))
    ∙ step_closer (first f xs) (first f ys) (nearest steps up f (flat_map up xs)) (nearest steps up f (flat_map up ys))

pub nearest_none : (steps : ℕ) (up : ℕ → List ℕ) (f : ℕ → Option Member) → nearest steps up f [] ≡ None
unfolding nearest first
nearest_none zero up f = refl
nearest_none (suc steps) up f = ap raised (nearest_none steps up f)

-- the nearest along a list does not see what is there before
same_again : (a : Near) → closer (Some a) (Some a) ≡ Some a
same_again a = ap (λ t. cond t (Some a) (Some a)) (le-ltb a.level a.level (omega arith))

closer_self : (a : Option Near) → closer a a ≡ a
closer_self None = refl
closer_self (Some a) = same_again a

between : (a b : Near) (v : Bool) → ltb b.level a.level ≡ v → closer (cond v (Some b) (Some a)) (Some a) ≡ cond v (Some b) (Some a)
between a b true e = some_closer b a false (le-ltb a.level b.level (omega (arith, ltb-true b.level a.level e)))
between a b false e = same_again a

again_behind : (a b : Option Near) → closer (closer a b) a ≡ closer a b
again_behind None b = refl
again_behind (Some a) None = same_again a
again_behind (Some a) (Some b) = between a b (ltb b.level a.level) refl

one : ℕ → (ℕ → List ℕ) → (ℕ → Option Member) → ℕ → Option Near
one steps up f x = nearest steps up f (x ∷ [])

split_one : (steps : ℕ) (up : ℕ → List ℕ) (f : ℕ → Option Member) (x : ℕ) (xs : List ℕ) → nearest steps up f (x ∷ xs) ≡ closer (one steps up f x) (nearest steps up f xs)
unfolding one
split_one steps up f x xs = nearest_append steps up f (x ∷ []) xs

there_by : (steps : ℕ) (up : ℕ → List ℕ) (f : ℕ → Option Member) (x y : ℕ) (ys : List ℕ) (b : Bool) → eqb x y ≡ b → (cond b true (list_any (nat_eq x) ys)) ≡ true → (list_any (nat_eq x) ys ≡ true → closer (nearest steps up f ys) (one steps up f x) ≡ nearest steps up f ys) → closer (nearest steps up f (y ∷ ys)) (one steps up f x) ≡ nearest steps up f (y ∷ ys)
there_by steps up f x y ys true e h rest =
    let there = split_one steps up f y ys ∙ ap (λ z. closer (one steps up f z) (nearest steps up f ys)) (sym (eqb-true x y e)) in
    ap (λ n. closer n (one steps up f x)) there ∙ again_behind (one steps up f x) (nearest steps up f ys) ∙ sym there
there_by steps up f x y ys false e h rest =
    ap (λ n. closer n (one steps up f x)) (split_one steps up f y ys) ∙ closer_assoc (one steps up f y) (nearest steps up f ys) (one steps up f x)
    ∙ ap (closer (one steps up f y)) (rest h) ∙ sym (split_one steps up f y ys)

or_cond : (a b : Bool) → (a || b) ≡ cond a true b
or_cond true b = refl
or_cond false b = refl

already : (steps : ℕ) (up : ℕ → List ℕ) (f : ℕ → Option Member) (x : ℕ) (keys : List ℕ) → list_any (nat_eq x) keys ≡ true → closer (nearest steps up f keys) (one steps up f x) ≡ nearest steps up f keys
already steps up f x [] h = cc
already steps up f x (y ∷ ys) h = there_by steps up f x y ys (eqb x y) refl (sym (or_cond (eqb x y) (list_any (nat_eq x) ys)) ∙ h) (λ k. already steps up f x ys k)

inserted : (steps : ℕ) (up : ℕ → List ℕ) (f : ℕ → Option Member) (keys : List ℕ) (x : ℕ) (b : Bool) → list_any (nat_eq x) keys ≡ b → nearest steps up f (cond b keys (keys ++ x ∷ [])) ≡ closer (nearest steps up f keys) (one steps up f x)
unfolding one
inserted steps up f keys x true e = sym (already steps up f x keys e)
inserted steps up f keys x false e = nearest_append steps up f keys (x ∷ [])

pub nearest_once : (steps : ℕ) (up : ℕ → List ℕ) (f : ℕ → Option Member) (keys xs : List ℕ) → nearest steps up f (once keys xs) ≡ closer (nearest steps up f keys) (nearest steps up f xs)
nearest_once steps up f keys [] = sym (ap (closer (nearest steps up f keys)) (nearest_none steps up f))
nearest_once steps up f keys (x ∷ xs) =
    nearest_once steps up f (insert_key nat_eq keys x) xs ∙ ap (λ n. closer n (nearest steps up f xs)) (inserted steps up f keys x (list_any (nat_eq x) keys) refl)
    ∙ closer_assoc (nearest steps up f keys) (one steps up f x) (nearest steps up f xs) ∙ ap (closer (nearest steps up f keys)) (sym (split_one steps up f x xs))

pub nearest_of_once : (steps : ℕ) (up : ℕ → List ℕ) (f : ℕ → Option Member) (xs : List ℕ) → nearest steps up f (once [] xs) ≡ nearest steps up f xs
nearest_of_once steps up f xs = nearest_once steps up f [] xs ∙ ap (λ n. closer n (nearest steps up f xs)) (nearest_none steps up f) ∙ none_closer (nearest steps up f xs)

-- the nearest member is the first along the levels
found_here : (a : Option Member) → option_map (λ n. n.found) (here a) ≡ a
found_here None = refl
found_here (Some x) = refl

found_raised : (n : Option Near) → option_map (λ n. n.found) (raised n) ≡ option_map (λ n. n.found) n
found_raised None = refl
found_raised (Some n) = refl

found_or : (a : Option Member) (n : Option Near) → option_map (λ n. n.found) (option_or (here a) (raised n)) ≡ option_or a (option_map (λ n. n.found) n)
found_or None n = found_raised n
found_or (Some x) n = refl

pub found_nearest : (steps : ℕ) (set : List ClassDef) (f : ℕ → Option Member) (xs : List ℕ) → option_map (λ n. n.found) (nearest steps (interfaces_at set) f xs) ≡ first f (levels steps set xs)
unfolding nearest levels
found_nearest zero set f xs = found_here (first f xs)
found_nearest (suc steps) set f xs =
    found_or (first f xs) (nearest steps (interfaces_at set) f (flat_map (interfaces_at set) xs)) ∙ ap (option_or (first f xs)) (found_nearest steps set f (flat_map (interfaces_at set) xs))
    ∙ sym (first_append f xs (levels steps set (flat_map (interfaces_at set) xs)))

-- levels, one by one
pub lifted_none : (n : Option Near) → lifted 0 n ≡ n
lifted_none None = refl
lifted_none (Some n) = ap (λ k. Some (record { level = k; found = n.found })) (add-zero n.level)

lifted_raised : (depth : ℕ) (n : Option Near) → lifted depth (raised n) ≡ lifted (depth + 1) n
lifted_raised depth None = refl
lifted_raised depth (Some n) = ap (λ k. Some (record { level = k; found = n.found })) (omega arith)

lifted_found : (depth : ℕ) (a : Option Member) (n : Option Near) → is_some (lifted depth (here a)) ≡ true → lifted depth (option_or (here a) n) ≡ lifted depth (here a)
lifted_found depth None n h = cc
lifted_found depth (Some x) n h = refl

lifted_passed : (depth : ℕ) (a : Option Member) (n : Option Near) → is_some (lifted depth (here a)) ≡ false → lifted depth (option_or (here a) n) ≡ lifted depth n
lifted_passed depth None n h = refl
lifted_passed depth (Some x) n h = cc

pub level_found : (left below depth : ℕ) (up : ℕ → List ℕ) (f : ℕ → Option Member) (xs : List ℕ) → left ≡ suc below → is_some (lifted depth (here (first f xs))) ≡ true → lifted depth (nearest left up f xs) ≡ lifted depth (here (first f xs))
unfolding nearest
level_found left below depth up f xs e some =
    ap (λ n. lifted depth (nearest n up f xs)) e ∙ lifted_found depth (first f xs) (raised (nearest below up f (flat_map up xs))) some

pub level_passed : (left below depth : ℕ) (up : ℕ → List ℕ) (f : ℕ → Option Member) (xs next : List ℕ) → left ≡ suc below → is_some (lifted depth (here (first f xs))) ≡ false → next ≡ once [] (flat_map up xs) → lifted depth (nearest left up f xs) ≡ lifted (depth + 1) (nearest below up f next)
unfolding nearest
level_passed left below depth up f xs next e none is =
    ap (λ n. lifted depth (nearest n up f xs)) e ∙ lifted_passed depth (first f xs) (raised (nearest below up f (flat_map up xs))) none
    ∙ lifted_raised depth (nearest below up f (flat_map up xs)) ∙ ap (lifted (depth + 1)) (sym (nearest_of_once below up f (flat_map up xs)) ∙ ap (nearest below up f) (sym is))

pub level_last : (left depth : ℕ) (up : ℕ → List ℕ) (f : ℕ → Option Member) (xs : List ℕ) → left ≡ 0 → lifted depth (nearest left up f xs) ≡ lifted depth (here (first f xs))
unfolding nearest
level_last left depth up f xs e = ap (λ n. lifted depth (nearest n up f xs)) e

pub level_empty : (left depth : ℕ) (up : ℕ → List ℕ) (f : ℕ → Option Member) (xs : List ℕ) → xs ≡ [] → lifted depth (nearest left up f xs) ≡ lifted depth (here (first f xs))
unfolding first
level_empty left depth up f xs e = ap (λ ys. lifted depth (nearest left up f ys)) e ∙ ap (lifted depth) (nearest_none left up f) ∙ sym (ap (λ ys. lifted depth (here (first f ys))) e)

-- the superclasses in turn
pub nearest_of_next : (set : List ClassDef) (ranks : List ℕ) (f : ℕ → Option Member) (best here : Option Near) (at next : ℕ) → Ranked set ranks → here ≡ nearest (length set) (interfaces_at set) f (interfaces_at set at) → option_to_list (Some next) ≡ super_at set at → closer best (nearest (length set) (interfaces_at set) f (flat_map (interfaces_at set) (supers set at))) ≡ closer (closer best here) (nearest (length set) (interfaces_at set) f (flat_map (interfaces_at set) (supers set next)))
nearest_of_next set ranks f best here at next r is e =
    let near = nearest (length set) (interfaces_at set) f in
    let rest = flat_map (interfaces_at set) (supers set next) in
    ap (λ xs. closer best (near xs)) (up_pieces (interfaces_at set) set ranks at next r e) ∙ ap (closer best) (nearest_append (length set) (interfaces_at set) f (interfaces_at set at) rest)
    ∙ ap (λ n. closer best (closer n (near rest))) (sym is) ∙ sym (closer_assoc best here (near rest))

pub nearest_of_top : (set : List ClassDef) (ranks : List ℕ) (f : ℕ → Option Member) (best here : Option Near) (at : ℕ) → Ranked set ranks → here ≡ nearest (length set) (interfaces_at set) f (interfaces_at set at) → [] ≡ super_at set at → closer best (nearest (length set) (interfaces_at set) f (flat_map (interfaces_at set) (supers set at))) ≡ closer best here
nearest_of_top set ranks f best here at r is e =
    ap (λ xs. closer best (nearest (length set) (interfaces_at set) f xs)) (top_pieces (interfaces_at set) set ranks at r e) ∙ ap (closer best) (sym is)

pub first_of_nearest : (set : List ClassDef) (f : ℕ → Option Member) (start : ℕ) → option_map (λ n. n.found) (nearest (length set) (interfaces_at set) f (flat_map (interfaces_at set) (supers set start))) ≡ first f (superinterfaces set start)
unfolding superinterfaces
first_of_nearest set f start = found_nearest (length set) set f (flat_map (interfaces_at set) (supers set start))
