-- Lists of types, item by item and turned round.
use Rattle.std.proofs.Common.{◌≡◌, ℕ, zero, suc, ◌+◌, ◌<◌, ◌≤◌, Bool, true, false, ◌||◌, List, [], ◌∷◌, ◌++◌, length, get_or, take, drop, reverse, map, refl, sym, ap, ◌∙◌, add-one, arith}
use Rattle.std.specs.Prelude.{sum_by, slice_set, slice_index_or}
use Rattle.std.specs.List.{list_any}
use Rattle.std.proofs.lemmas.Grind.{reverse_onto}
use Rattle.std.proofs.lemmas.List.Sums.{sum_by_push, sum_by-cons, sum_by-drop_more}
use Rattle.std.proofs.lemmas.List.Folds.{list_any-append}
use Rattle.class_model.specs.declared.class.VType.{VType}
use Rattle.type_rows.specs.Calls.{turned, replaced}

pub sum_reverse : (f : VType → ℕ) (types : List VType) → sum_by f (reverse types) ≡ sum_by f types
sum_reverse f [] = refl
sum_reverse f (ty ∷ types) =
    ap (sum_by f) (reverse_onto types ty []) ∙ sum_by_push f (reverse types) ty ∙ (let h = sum_reverse f types in let c = sum_by-cons f ty types in omega arith)

or_turn : (a b : Bool) → a || (b || false) ≡ b || a
or_turn true true = refl
or_turn true false = refl
or_turn false true = refl
or_turn false false = refl

pub any_reverse : (test : VType → Bool) (types : List VType) → list_any test (reverse types) ≡ list_any test types
any_reverse test [] = refl
any_reverse test (ty ∷ types) =
    ap (list_any test) (reverse_onto types ty []) ∙ list_any-append test (reverse types) (ty ∷ []) ∙ or_turn (list_any test (reverse types)) (test ty) ∙ ap (λ b. test ty || b) (any_reverse test types)

pub sum_more : (f : VType → ℕ) (types : List VType) (i : ℕ) (d : VType) → i < length types → sum_by f (drop i types) ≡ f (get_or types i d) + sum_by f (drop (i + 1) types)
sum_more f types i d h = sum_by-drop_more f types i d h

map_push : (f : VType → VType) (types : List VType) (ty : VType) → map f (types ++ ty ∷ []) ≡ map f types ++ f ty ∷ []
map_push f [] ty = refl
map_push f (u ∷ types) ty = ap (λ l. f u ∷ l) (map_push f types ty)

pub map_reverse : (f : VType → VType) (types : List VType) → map f (reverse types) ≡ reverse (map f types)
map_reverse f [] = refl
map_reverse f (ty ∷ types) =
    ap (map f) (reverse_onto types ty []) ∙ map_push f (reverse types) ty ∙ ap (λ l. l ++ f ty ∷ []) (map_reverse f types) ∙ sym (reverse_onto (map f types) (f ty) [])

pub replaced_reverse : (old new : VType) (types : List VType) → reverse (replaced old new types) ≡ replaced old new (reverse types)
replaced_reverse old new types = sym (map_reverse (turned old new) types)

-- a list whose first items are mapped
abbrev pub map_front : (VType → VType) → ℕ → List VType → List VType
map_front f i types = map f (take i types) ++ drop i types

next_front : (f : VType → VType) (types : List VType) (i : ℕ) (d : VType) → i < length types → slice_set (map_front f i types) i (f (get_or types i d)) ≡ map_front f (suc i) types
next_front f [] i d h = absurd (omega arith)
next_front f (ty ∷ types) zero d h = refl
next_front f (ty ∷ types) (suc i) d h = ap (λ l. f ty ∷ l) (next_front f types i d (omega arith))

get_front : (f : VType → VType) (types : List VType) (i : ℕ) (d : VType) → i < length types → slice_index_or (map_front f i types) i d ≡ get_or types i d
get_front f [] i d h = absurd (omega arith)
get_front f (ty ∷ types) zero d h = refl
get_front f (ty ∷ types) (suc i) d h = get_front f types i d (omega arith)

pub map_more : (f : VType → VType) (types : List VType) (i : ℕ) (d : VType) → i < length types → slice_set (map_front f i types) i (f (slice_index_or (map_front f i types) i d)) ≡ map_front f (i + 1) types
map_more f types i d h =
    ap (λ ty. slice_set (map_front f i types) i (f ty)) (get_front f types i d h) ∙ next_front f types i d h ∙ ap (λ k. map_front f k types) (sym (add-one i))

pub map_whole : (f : VType → VType) (types : List VType) (i : ℕ) → i ≡ length types → map_front f i types ≡ map f types
map_whole f [] zero h = refl
map_whole f [] (suc i) h = absurd (omega arith)
map_whole f (ty ∷ types) zero h = absurd (omega arith)
map_whole f (ty ∷ types) (suc i) h = ap (λ l. f ty ∷ l) (map_whole f types i (omega arith))

pub set_past : (types : List VType) (i : ℕ) (ty : VType) → length types ≤ i → slice_set types i ty ≡ types
set_past [] i ty h = refl
set_past (t ∷ types) zero ty h = absurd (omega arith)
set_past (t ∷ types) (suc i) ty h = ap (λ l. t ∷ l) (set_past types i ty (omega arith))

pub map_step : (f : VType → VType) (types : List VType) (i : ℕ) (d : VType) (now next : List VType) → i < length types → now ≡ map_front f i types → next ≡ slice_set now i (f (slice_index_or now i d)) → next ≡ map_front f (i + 1) types
map_step f types i d now next h e n = n ∙ ap (λ l. slice_set l i (f (slice_index_or l i d))) e ∙ map_more f types i d h
