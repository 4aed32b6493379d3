-- The numbers of the items of a list that pass a test, one item after another.
use Rattle.std.proofs.Common.{◌≡◌, ◌∙◌, ℕ, ◌+◌, ◌<◌, ◌≤◌, Bool, true, false, ◌&&◌, ◌||◌, cond, eqb, eq-eqb, ltb, List, [], ◌∷◌, ◌++◌, length, refl, sym, ap, None, arith, ◌⊎◌, inl, inr}
use Rattle.std.specs.Prelude.{slice_get}
use Rattle.std.proofs.lemmas.Bool.{cases_lt}
use Rattle.std.proofs.lemmas.Option.{slice_get_past}
use Rattle.set_lookups.specs.First.{holds_of}
use Rattle.linked_code.specs.Kept.{is_among}
use Rattle.program_links.specs.Picked.{Picked, AllPicked}

either : (a b c : Bool) → cond a true (b || c) ≡ (cond a true b || c)
either true b c = refl
either false b c = refl

last_by : (b : Bool) → cond b true false ≡ (false || b)
last_by true = refl
last_by false = refl

or_false : (b : Bool) → (b || false) ≡ b
or_false true = refl
or_false false = refl

and_false : (b : Bool) → (b && false) ≡ false
and_false true = refl
and_false false = refl

among_appended : (xs : List ℕ) (x b : ℕ) → is_among (xs ++ x ∷ []) b ≡ (is_among xs b || eqb x b)
among_appended [] x b = last_by (eqb x b)
among_appended (y ∷ xs) x b = ap (cond (eqb y b) true) (among_appended xs x b) ∙ either (eqb y b) (is_among xs b) (eqb x b)

less_true : (a b : ℕ) → a < b → ltb a b ≡ true
less_true a b h = grind arith

less_false : (a b : ℕ) → b ≤ a → ltb a b ≡ false
less_false a b h = grind arith

apart : (a b : ℕ) → a < b → eqb b a ≡ false
apart a b h = grind arith

beyond : (a b : ℕ) → b < a → eqb b a ≡ false
beyond a b h = grind arith

pub none_picked : {A : Type 0} (test : A → Bool) (xs : List A) → Picked test xs [] 0
none_picked test xs = record { are = λ b. ap (λ less. less && holds_of test (slice_get xs b)) (sym (less_false b 0 (omega arith))) }

-- at the item that was looked at, in front of it and behind it
data Where (b count : ℕ) : Type 0 where
  Front : b < count → Where b count
  Here : b ≡ count → Where b count
  Behind : count < b → Where b count

where_by : (b count : ℕ) → (b < count) ⊎ (count ≤ b) → (count < b) ⊎ (b ≤ count) → Where b count
where_by b count (inl lt) other = Front lt
where_by b count (inr ge) (inl lt) = Behind lt
where_by b count (inr ge) (inr le) = Here (omega (arith, ge, le))

where_is : (b count : ℕ) → Where b count
where_is b count = where_by b count (cases_lt b count) (cases_lt count b)

at_more : (found : Bool) (old : Bool) (lt next same : Bool) → old ≡ (lt && found) → lt ≡ true → next ≡ true → same ≡ false → (old || same) ≡ (next && found)
at_more found old true true false h a b c = or_false old ∙ h
at_more found old false next same h a b c = absurd cc
at_more found old true false same h a b c = absurd cc
at_more found old true true true h a b c = absurd cc

at_here : (found : Bool) (old : Bool) (lt next same : Bool) → old ≡ (lt && found) → lt ≡ false → next ≡ true → same ≡ true → found ≡ true → (old || same) ≡ (next && found)
at_here true old false true true h a b c d = ap (λ o. o || true) h
at_here found old true next same h a b c d = absurd cc
at_here found old false false same h a b c d = absurd cc
at_here found old false true false h a b c d = absurd cc
at_here false old false true true h a b c d = absurd cc

at_none : (found : Bool) (old : Bool) (lt next same : Bool) → old ≡ (lt && found) → lt ≡ false → next ≡ false → same ≡ false → (old || same) ≡ (next && found)
at_none found old false false false h a b c = or_false old ∙ h
at_none found old true next same h a b c = absurd cc
at_none found old false true same h a b c = absurd cc
at_none found old false false true h a b c = absurd cc

more_by : {A : Type 0} (test : A → Bool) (xs : List A) (picked : List ℕ) (count next b : ℕ) → Where b count → Picked test xs picked count → holds_of test (slice_get xs count) ≡ true → next ≡ count + 1 → (is_among picked b || eqb count b) ≡ (ltb b next && holds_of test (slice_get xs b))
more_by test xs picked count next b (Front lt) h passes n =
    at_more (holds_of test (slice_get xs b)) (is_among picked b) (ltb b count) (ltb b next) (eqb count b) (h.are b) (less_true b count lt) (less_true b next (omega (arith, lt, n))) (apart b count lt)
more_by test xs picked count next b (Here e) h passes n =
    at_here (holds_of test (slice_get xs b)) (is_among picked b) (ltb b count) (ltb b next) (eqb count b) (h.are b) (less_false b count (omega (arith, e))) (less_true b next (omega (arith, e, n))) (eq-eqb count b (sym e)) (ap (λ k. holds_of test (slice_get xs k)) e ∙ passes)
more_by test xs picked count next b (Behind lt) h passes n =
    at_none (holds_of test (slice_get xs b)) (is_among picked b) (ltb b count) (ltb b next) (eqb count b) (h.are b) (less_false b count (omega (arith, lt))) (less_false b next (omega (arith, lt, n))) (beyond b count lt)

pub picked_more : {A : Type 0} (test : A → Bool) (xs : List A) (picked : List ℕ) (count next : ℕ) → Picked test xs picked count → holds_of test (slice_get xs count) ≡ true → next ≡ count + 1 → Picked test xs (picked ++ count ∷ []) next
picked_more test xs picked count next h passes n = record { are = λ b. among_appended picked count b ∙ more_by test xs picked count next b (where_is b count) h passes n }

over_by : {A : Type 0} (test : A → Bool) (xs : List A) (count next b : ℕ) → Where b count → holds_of test (slice_get xs count) ≡ false → next ≡ count + 1 → (ltb b count && holds_of test (slice_get xs b)) ≡ (ltb b next && holds_of test (slice_get xs b))
over_by test xs count next b (Front lt) fails n = ap (λ l. l && holds_of test (slice_get xs b)) (less_true b count lt ∙ sym (less_true b next (omega (arith, lt, n))))
over_by test xs count next b (Here e) fails n =
    let none : holds_of test (slice_get xs b) ≡ false = ap (λ k. holds_of test (slice_get xs k)) e ∙ fails in
    ap (λ found. ltb b count && found) none ∙ and_false (ltb b count) ∙ sym (ap (λ found. ltb b next && found) none ∙ and_false (ltb b next))
over_by test xs count next b (Behind lt) fails n = ap (λ l. l && holds_of test (slice_get xs b)) (less_false b count (omega (arith, lt)) ∙ sym (less_false b next (omega (arith, lt, n))))

pub passed_over : {A : Type 0} (test : A → Bool) (xs : List A) (picked : List ℕ) (count next : ℕ) → Picked test xs picked count → holds_of test (slice_get xs count) ≡ false → next ≡ count + 1 → Picked test xs picked next
passed_over test xs picked count next h fails n = record { are = λ b. h.are b ∙ over_by test xs count next b (where_is b count) fails n }

all_by : {A : Type 0} (test : A → Bool) (xs : List A) (count b : ℕ) → (b < count) ⊎ (count ≤ b) → length xs ≤ count → (ltb b count && holds_of test (slice_get xs b)) ≡ holds_of test (slice_get xs b)
all_by test xs count b (inl lt) le = ap (λ l. l && holds_of test (slice_get xs b)) (less_true b count lt)
all_by test xs count b (inr ge) le =
    let past : slice_get xs b ≡ None = slice_get_past xs b (omega (arith, ge, le)) in
    ap (λ l. l && holds_of test (slice_get xs b)) (less_false b count ge) ∙ sym (ap (holds_of test) past)

pub all_picked : {A : Type 0} (test : A → Bool) (xs : List A) (picked : List ℕ) (count : ℕ) → Picked test xs picked count → length xs ≤ count → AllPicked test xs picked
all_picked test xs picked count h le = λ b. h.are b ∙ all_by test xs count b (cases_lt b count) le
