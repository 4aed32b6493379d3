-- Words and entries of locals, and operands turned round.
use Rattle.std.proofs.Common.{◌≡◌, ℕ, zero, suc, ◌+◌, ◌<◌, Bool, true, false, ◌&&◌, List, [], ◌∷◌, ◌++◌, length, get_or, drop, reverse, map, refl, sym, ap, ◌∙◌, add-one, arith}
use Rattle.std.specs.Prelude.{replicate}
use Rattle.std.specs.Cmp.Lexicographic.{pointwise}
use Rattle.std.proofs.Math.Seq.{drop-cons}
use Rattle.std.proofs.lemmas.Grind.{reverse_onto}
use Rattle.std.proofs.lemmas.List.{length-reverse}
use Rattle.class_model.specs.declared.types.JType.{JType}
use Rattle.class_model.specs.declared.class.VType.{VType}
use Rattle.class_model.specs.declared.class.VType.TheVariants.{Top, Int, Long, Null, UninitThis, Ref, Uninit}
use Rattle.class_set.specs.Assignable.{type_of, in_front, in_words}
use Rattle.class_set.proofs.Assigned.{pointwise_lengths}
use Rattle.verifier.specs.Frames.{entries_from}

pub in_words_more : (types : List VType) (i : ℕ) (d : VType) → i < length types → in_words (drop i types) ≡ in_front (get_or types i d) (in_words (drop (i + 1) types))
in_words_more types i d h = rw (add-one, drop-cons types i d)

pub entries_more : (in_long : Bool) (words : List VType) (i : ℕ) (d : VType) → i < length words → entries_from in_long (drop i words) ≡ entries_from in_long (get_or words i d ∷ drop (i + 1) words)
entries_more in_long words i d h = rw (add-one, drop-cons words i d)

pub replicate_push : (n : ℕ) (words : List VType) → (words ++ replicate n Top) ++ Top ∷ [] ≡ words ++ replicate (n + 1) Top
replicate_push n (ty ∷ words) = ap (λ l. ty ∷ l) (replicate_push n words)
replicate_push zero [] = refl
replicate_push (suc n) [] = ap (λ l. Top ∷ l) (replicate_push n [] ∙ ap (λ k. replicate k Top) (add-one n)) ∙ ap (λ k. replicate k Top) (sym (add-one (suc n)))

in_front_append : (ty : VType) (words : List VType) → in_front ty [] ++ words ≡ in_front ty words
in_front_append Long words = refl
in_front_append Top words = refl
in_front_append Int words = refl
in_front_append Null words = refl
in_front_append UninitThis words = refl
in_front_append (Ref t) words = refl
in_front_append (Uninit at) words = refl

append_front : (ty : VType) (front words : List VType) → (front ++ in_front ty []) ++ words ≡ front ++ in_front ty words
append_front ty [] words = in_front_append ty words
append_front ty (f ∷ front) words = ap (λ l. f ∷ l) (append_front ty front words)

-- the words of one more entry
pub words_step : (types front next : List VType) (i : ℕ) (ty : VType) → i < length types → ty ≡ get_or types i ty → next ≡ front ++ in_front ty [] → next ++ in_words (drop (i + 1) types) ≡ front ++ in_words (drop i types)
words_step types front next i ty h is e =
    ap (λ l. l ++ in_words (drop (i + 1) types)) e ∙ append_front ty front (in_words (drop (i + 1) types)) ∙ ap (λ t. front ++ in_front t (in_words (drop (i + 1) types))) is ∙ ap (λ l. front ++ l) (sym (in_words_more types i ty h))

-- one more word
pub entries_step : (words front next : List VType) (now then_long : Bool) (i : ℕ) (ty : VType) → i < length words → ty ≡ get_or words i ty → ((rest : List VType) → next ++ entries_from then_long rest ≡ front ++ entries_from now (ty ∷ rest)) → next ++ entries_from then_long (drop (i + 1) words) ≡ front ++ entries_from now (drop i words)
entries_step words front next now then_long i ty h is e =
    e (drop (i + 1) words) ∙ ap (λ t. front ++ entries_from now (t ∷ drop (i + 1) words)) is ∙ ap (λ l. front ++ l) (sym (entries_more now words i ty h))

pub append_one : (front rest : List VType) (ty : VType) → (front ++ ty ∷ []) ++ rest ≡ front ++ ty ∷ rest
append_one [] rest ty = refl
append_one (f ∷ front) rest ty = ap (λ l. f ∷ l) (append_one front rest ty)

pub map_types_more : (params : List JType) (i : ℕ) (d : JType) → i < length params → map type_of (drop i params) ≡ type_of (get_or params i d) ∷ map type_of (drop (i + 1) params)
map_types_more params i d h = rw (add-one, drop-cons params i d)

and_swap : (a b : Bool) → a && b ≡ b && a
and_swap true true = refl
and_swap true false = refl
and_swap false true = refl
and_swap false false = refl

and_turn : (a b c : Bool) → a && (b && c) ≡ (a && b) && c
and_turn true b c = refl
and_turn false b c = refl

and_true : (a : Bool) → a && true ≡ a
and_true true = refl
and_true false = refl

and_false : (a : Bool) → a && false ≡ false
and_false true = refl
and_false false = refl

pointwise_append : (test : VType → VType → Bool) (xs ys : List VType) (x y : VType) → pointwise test (xs ++ x ∷ []) (ys ++ y ∷ []) ≡ pointwise test xs ys && test x y
pointwise_append test [] [] x y = and_true _
pointwise_append test [] (v ∷ []) x y = and_false _
pointwise_append test [] (v ∷ w ∷ ys) x y = and_false _
pointwise_append test (s ∷ []) [] x y = and_false _
pointwise_append test (s ∷ r ∷ xs) [] x y = and_false _
pointwise_append test (s ∷ xs) (v ∷ ys) x y = ap (λ b. test s v && b) (pointwise_append test xs ys x y) ∙ and_turn (test s v) (pointwise test xs ys) (test x y)

pub pointwise_reverse : (test : VType → VType → Bool) (xs ys : List VType) → pointwise test (reverse xs) (reverse ys) ≡ pointwise test xs ys
pointwise_reverse test [] [] = refl
pointwise_reverse test [] (y ∷ ys) = pointwise_lengths test [] (reverse (y ∷ ys)) (λ e. absurd (let h = length-reverse (y ∷ ys) in omega arith))
pointwise_reverse test (x ∷ xs) [] = pointwise_lengths test (reverse (x ∷ xs)) [] (λ e. absurd (let h = length-reverse (x ∷ xs) in omega arith))
pointwise_reverse test (x ∷ xs) (y ∷ ys) =
    ap (pointwise test (reverse (x ∷ xs))) (reverse_onto ys y []) ∙ ap (λ l. pointwise test l (reverse ys ++ y ∷ [])) (reverse_onto xs x [])
    ∙ pointwise_append test (reverse xs) (reverse ys) x y ∙ ap (λ b. b && test x y) (pointwise_reverse test xs ys) ∙ and_swap (pointwise test xs ys) (test x y)
