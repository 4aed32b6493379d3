-- What is spelled one after the other: what it claims, and how a loop goes over it.
use Rattle.std.proofs.Common.{◌≡◌, ◌∙◌, ℕ, suc, ◌+◌, ◌<◌, ◌≤◌, Bool, true, false, cond, List, [], ◌∷◌, ◌++◌, length, drop, get_or, Result, Ok, Err, refl, sym, ap, subst, append_assoc, arith, ltb, length-drop, drop-cons, add-one}
use Rattle.std.specs.Prelude.{IsErrAnd}
use Rattle.std.specs.Int.{w16, w32, to_be_bytes}
use Rattle.std.proofs.lemmas.Grind.{common_steps}
use Rattle.std.proofs.lemmas.List.{nil_from_length, append-nil}
use Rattle.std.proofs.lemmas.List.Elements.{All-head, All-tail}
use Rattle.class_input.specs.Grammar.{IsU16, IsU32, Each}
use Rattle.const_pool.specs.declared.editor.PoolStop.{PoolStop}
use Rattle.const_pool.specs.declared.editor.PoolStop.TheVariants.{Full, Memory}
use Rattle.const_pool.specs.Pool.{Pool}
use Rattle.pool_names.specs.Adding.{Adding, bind, ◌>>=◌, done, unspelled, spell_u16, spell_u32, spell_each, PutsBy, behind, Unfit, Past}
use Rattle.pool_names.specs.Claims.{Claims, AllClaims}
use Rattle.pool_names.proofs.Claiming.{claims_as, done_claims, Then, then_claims}

-- ---- numbers

number_claims : (bits : List ℕ) (b : Bool) → Claims (λ r text. (b ≡ true) × (text ≡ bits)) (cond b (done bits) unspelled)
number_claims bits true = claims_as (λ r text. bits ≡ text) (λ r text. (true ≡ true) × (text ≡ bits)) (done bits) (λ r text h. (refl, sym h)) (done_claims bits)
number_claims bits false = record { each = λ p q text h. absurd cc }

pub u16_claims : (n : ℕ) → Claims (λ r text. IsU16 text n) (spell_u16 n)
unfolding spell_u16
u16_claims n =
    claims_as (λ r text. (ltb n 65536 ≡ true) × (text ≡ to_be_bytes w16 n)) (λ r text. IsU16 text n) (spell_u16 n)
    (λ r text h. (grind (arith, common_steps, h.0), h.1))
    (number_claims (to_be_bytes w16 n) (ltb n 65536))

pub u32_claims : (n : ℕ) → Claims (λ r text. IsU32 text n) (spell_u32 n)
unfolding spell_u32
u32_claims n =
    claims_as (λ r text. (ltb n 4294967296 ≡ true) × (text ≡ to_be_bytes w32 n)) (λ r text. IsU32 text n) (spell_u32 n)
    (λ r text h. (grind (arith, common_steps, h.0), h.1))
    (number_claims (to_be_bytes w32 n) (ltb n 4294967296))

-- ---- lists

pub each_claims : {A : Type 0} (R : Pool → List ℕ → A → Type 0) (spell : A → Adding (List ℕ)) (xs : List A) → AllClaims R spell xs → Claims (λ r text. Each (R r) text xs) (spell_each spell xs)
unfolding spell_each
each_claims R spell [] all = claims_as (λ r text. [] ≡ text) (λ r text. text ≡ []) (done []) (λ r text h. sym h) (done_claims [])
each_claims {A} R spell (x ∷ xs) all =
    let One : A → Type 0 = λ y. Claims (λ r text. R r text y) (spell y) in
    claims_as
    (Then (λ r first. R r first x) (λ first. Then (λ r others. Each (R r) others xs) (λ others r text. (first ++ others) ≡ text)))
    (λ r text. Each (R r) text (x ∷ xs)) (spell_each spell (x ∷ xs))
    (λ r text h. (h.0, h.2.0, sym h.2.2, h.1, h.2.1))
    (then_claims (λ r first. R r first x) _ (spell x) _ (All-head One x xs all)
    (λ first. then_claims (λ r others. Each (R r) others xs) _ (spell_each spell xs) _ (each_claims R spell xs (All-tail One x xs all))
    (λ others. done_claims (first ++ others))))

-- bytes that are put behind none
pub behind_none : (o : Result (Pool × List ℕ) Unfit) → behind [] o ≡ o
behind_none (Ok x) = refl
behind_none (Err last) = refl

-- ---- a loop that puts each of a list behind bytes

abbrev pub written : Pool → List ℕ → Result (Pool × List ℕ) Unfit
written q bytes = Ok (q, bytes)

abbrev first_spelled : Result (Pool × List ℕ) Unfit → Adding (List ℕ) → Result (Pool × List ℕ) Unfit
first_spelled o rest = bind o (λ first. rest >>= λ others. done (first ++ others))

behind_more : (old first : List ℕ) (o : Result (Pool × List ℕ) Unfit) → behind old (bind o (λ others. done (first ++ others))) ≡ behind (old ++ first) o
behind_more old first (Ok x) = ap (λ (z : List ℕ). written x.0 z) (sym (append_assoc old first x.1))
behind_more old first (Err last) = refl

first_written : (o : Result (Pool × List ℕ) Unfit) (rest : Adding (List ℕ)) (q : Pool) (old mid : List ℕ) → behind old o ≡ written q mid → behind old (first_spelled o rest) ≡ behind mid (rest q)
first_written (Ok x) rest q old mid h =
    let pairs : (let z : Pool × List ℕ = (x.0, old ++ x.1) in z) ≡ (q, mid) = cc in
    let pool : x.0 ≡ q = ap (λ (z : Pool × List ℕ). z.0) pairs in
    let bytes : old ++ x.1 ≡ mid = ap (λ (z : Pool × List ℕ). z.1) pairs in
    behind_more old x.1 (rest x.0) ∙ ap (λ (z : List ℕ). behind z (rest x.0)) bytes ∙ ap (λ (z : Pool). behind mid (rest z)) pool
first_written (Err last) rest q old mid h = absurd cc

first_refused : (o : Result (Pool × List ℕ) Unfit) (rest : Adding (List ℕ)) (old : List ℕ) (last : Unfit) → behind old o ≡ Err last → behind old (first_spelled o rest) ≡ Err last
first_refused (Ok x) rest old last h = absurd cc
first_refused (Err other) rest old last h = h

at_place : {X : Type 0} (xs : List X) (i : ℕ) (x : X) → i < length xs → x ≡ get_or xs i x → drop i xs ≡ x ∷ drop (i + 1) xs
at_place xs i x lt is = rw (add-one, drop-cons xs i x lt) (ap (λ (y : _). y ∷ drop (suc i) xs) (sym is))

pub each_goes_on : {A : Type 0} (spell : A → Adding (List ℕ)) (xs : List A) (i : ℕ) (x : A) (p q : Pool) (old mid : List ℕ) (total : Result (Pool × List ℕ) Unfit) → i < length xs → x ≡ get_or xs i x → behind old (spell x p) ≡ written q mid
    → behind old (spell_each spell (drop i xs) p) ≡ total → behind mid (spell_each spell (drop (i + 1) xs) q) ≡ total
unfolding spell_each
each_goes_on spell xs i x p q old mid total lt is one so_far =
    let parts : drop i xs ≡ x ∷ drop (i + 1) xs = at_place xs i x lt is in
    let more : behind old (spell_each spell (drop i xs) p) ≡ behind mid (spell_each spell (drop (i + 1) xs) q) = rw parts (first_written (spell x p) (spell_each spell (drop (i + 1) xs)) q old mid one) in
    sym more ∙ so_far

-- what is answered where a step stopped
pub stopped : {B : Type 0} (stop : PoolStop) (result : Result B PoolStop) (q : Pool) (bytes : List ℕ) (total : Result (Pool × List ℕ) Unfit) → IsErrAnd result (λ e. e ≡ stop) → PutsBy (λ (x : B). bytes) (Err stop) q total → PutsBy (λ (x : B). bytes) result q total
stopped {B} stop (Ok x) q bytes total is h = absurd is
stopped {B} stop (Err e) q bytes total is h = subst (λ (z : PoolStop). PutsBy (λ (x : B). bytes) (Err z) q total) (sym is) h

pub each_stops : {A B : Type 0} (spell : A → Adding (List ℕ)) (stop : PoolStop) (result : Result B PoolStop) (xs : List A) (i : ℕ) (x : A) (p q : Pool) (old bytes : List ℕ) (total : Result (Pool × List ℕ) Unfit) → i < length xs → x ≡ get_or xs i x
    → PutsBy (λ (x : B). bytes) (Err stop) q (behind old (spell x p)) → behind old (spell_each spell (drop i xs) p) ≡ total → IsErrAnd result (λ e. e ≡ stop) → PutsBy (λ (x : B). bytes) result q total
unfolding spell_each
each_stops {A} {B} spell (Full last) result xs i x p q old bytes total lt is one so_far stops =
    let parts : drop i xs ≡ x ∷ drop (i + 1) xs = at_place xs i x lt is in
    let refused : behind old (spell_each spell (drop i xs) p) ≡ Err (Past last) = rw parts (first_refused (spell x p) (spell_each spell (drop (i + 1) xs)) old (Past last) one) in
    stopped (Full last) result q bytes total stops (sym so_far ∙ refused)
each_stops {A} {B} spell Memory result xs i x p q old bytes total lt is one so_far stops = stopped Memory result q bytes total stops tt

pub each_is_done : {A : Type 0} (spell : A → Adding (List ℕ)) (xs : List A) (i : ℕ) (p : Pool) (old : List ℕ) (total : Result (Pool × List ℕ) Unfit) → length xs ≤ i → behind old (spell_each spell (drop i xs) p) ≡ total → total ≡ written p old
unfolding spell_each
each_is_done spell xs i p old total le so_far =
    let none : drop i xs ≡ [] = nil_from_length (drop i xs) (omega (arith, length-drop i xs)) in
    let last : behind old (spell_each spell (drop i xs) p) ≡ written p old = rw none (ap (λ (z : List ℕ). written p z) (append-nil old)) in
    sym so_far ∙ last
