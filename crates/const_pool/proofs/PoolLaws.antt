-- Reading a pool is exact for what the bytes of a pool are.
use Rattle.std.proofs.Common.{◌≡◌, inl, inr, ℕ, zero, suc, ◌+◌, ◌-◌, ◌^◌, ◌<◌, ◌≤◌, Bool, true, false, cond, ltb, List, [], ◌∷◌, ◌++◌, length, take, Option, Some, None, Result, Ok, Err, refl, sym, ap, subst, ◌∙◌, append_assoc, add-one, zero-add, lit≤, arith, All}
use Rattle.std.specs.Prelude.{MatchBool, option_and_then}
use Rattle.std.specs.List.{flat_map, AllByRecursion}
use Rattle.std.specs.Int.{w16, to_be_bytes}
use Rattle.std.proofs.lemmas.Bool.{ltb-false, ltb-true, le-ltb, lt-ltb}
use Rattle.std.proofs.lemmas.List.{append-nil, length-append, length-map, map-append, take_at}
use Rattle.std.proofs.lemmas.List.Concat.{flat_map-cons}
use Rattle.std.proofs.lemmas.List.Elements.{All-cons, All-head, All-tail, All-nil}
use Rattle.class_input.specs.declared.bad_class.BadKind.TheVariants as bad
use Rattle.class_input.specs.declared.bad_class.BadClass.{BadClass}
use Rattle.class_input.specs.declared.bad_class.BadClass.TheVariants as errors
use Rattle.class_input.specs.Reading.{Fault, Fails, ◌>>=◌, done, here, lifted, judging, checked, number}
use Rattle.class_input.specs.Grammar.{IsBytes, IsU16, Each}
use Rattle.class_input.proofs.Laws.{IsDone, Then, Walk, IsAnswer, Exact, ExactBy, Exact-same, done_exact, refused_exact, then_exact, mapped_exact, here_exact, lifted_exact, u16_exact, by_exact, by_same, by_here, by_then, each_by, exact_by, by_exact_same, answer, from}
use Rattle.const_pool.specs.declared.entry.Entry.{Entry}
use Rattle.const_pool.specs.declared.entry.Entry.TheVariants.{Utf8, Integer, Float, Long, Double, Class, Text, Field, Method, InterfaceMethod, NameAndType, Handle, MethodType, Dynamic}
use Rattle.const_pool.specs.declared.decode.Placed.{Placed}
use Rattle.const_pool.specs.Pool.{Indexes, Pool, entry_bytes, InRange, HasText, entry_at, names, as_text, as_class, as_name_and_type, IsNamed, Refers, slots_of, IsPool}
use Rattle.const_pool.specs.PoolReading.{indexed, entry, placed, more, slots, entry_of, pool_of, of_kind, found, named, judged_one, judged_two, judged_entry, judged_at, judged_slot, entries, pool, counted, decoded, BeginsWithPool}
use Rattle.const_pool.proofs.EntryLaws.{IsEntry, FitsRoom, entry_exact, fine, split}

-- ---- entries, with their places

pool_more : (xs : List Placed) (at : ℕ) (e : Entry) → pool_of (xs ++ placed at e) ≡ pool_of xs ++ slots_of e
pool_more xs at (Utf8 t) = map-append entry_of xs _
pool_more xs at (Integer n) = map-append entry_of xs _
pool_more xs at (Float n) = map-append entry_of xs _
pool_more xs at (Long n) = map-append entry_of xs _
pool_more xs at (Double n) = map-append entry_of xs _
pool_more xs at (Class k) = map-append entry_of xs _
pool_more xs at (Text k) = map-append entry_of xs _
pool_more xs at (Field k m) = map-append entry_of xs _
pool_more xs at (Method k m) = map-append entry_of xs _
pool_more xs at (InterfaceMethod k m) = map-append entry_of xs _
pool_more xs at (NameAndType k m) = map-append entry_of xs _
pool_more xs at (Handle k m) = map-append entry_of xs _
pool_more xs at (MethodType k) = map-append entry_of xs _
pool_more xs at (Dynamic k m) = map-append entry_of xs _

abbrev NextR : ℕ → Pool → List ℕ → Pool → Type 0
NextR room p text q = (e : Entry) × FitsRoom room text e × (p ++ slots_of e ≡ q)

abbrev MoreOf : ℕ → ℕ → Pool → List ℕ → Pool → Type 0
MoreOf count n p text q = MatchBool (ltb n count) (NextR (count - n) p text q) (IsDone p text q)

abbrev MoreR : ℕ → Pool → List ℕ → Pool → Type 0
MoreR count p = MoreOf count (length p) p

next_by : (room : ℕ) (xs : List Placed) → 1 ≤ room → ExactBy pool_of (NextR room (pool_of xs)) (here >>= λ at. entry room >>= λ e. done (xs ++ placed at e))
next_by room xs some =
    by_here pool_of (NextR room (pool_of xs)) (λ at. entry room >>= λ e. done (xs ++ placed at e)) (λ at.
    by_exact pool_of (λ text ys. (e : Entry) × FitsRoom room text e × (xs ++ placed at e ≡ ys)) (NextR room (pool_of xs)) (entry room >>= λ e. done (xs ++ placed at e))
    (λ text ys h. (h.0, h.1, sym (pool_more xs at h.0) ∙ ap pool_of h.2))
    (λ text q h. (xs ++ placed at h.0, (h.0, h.1, refl), pool_more xs at h.0 ∙ h.2))
    (mapped_exact (FitsRoom room) (entry room) (λ e. xs ++ placed at e) (entry_exact room some)))

done_by : (xs : List Placed) → ExactBy pool_of (IsDone (pool_of xs)) (done xs)
done_by xs = by_exact pool_of (IsDone xs) (IsDone (pool_of xs)) (done xs) (λ text x h. (h.0, ap pool_of h.1)) (λ text y h. (xs, (h.0, refl), h.1)) (done_exact xs)

more_cases : (count : ℕ) (xs : List Placed) (b : Bool) → ltb (length xs) count ≡ b
    → ExactBy pool_of (λ text q. MatchBool b (NextR (count - length xs) (pool_of xs) text q) (IsDone (pool_of xs) text q)) (cond b (here >>= λ at. entry (count - length xs) >>= λ e. done (xs ++ placed at e)) (done xs))
more_cases count xs true is = let lt = ltb-true _ _ is in next_by (count - length xs) xs (omega (arith, lt))
more_cases count xs false is = done_by xs

more_by : (count : ℕ) (xs : List Placed) → ExactBy pool_of (MoreR count (pool_of xs)) (more count xs)
unfolding more
more_by count xs = subst (λ (n : ℕ). ExactBy pool_of (MoreOf count n (pool_of xs)) (more count xs)) (sym (length-map xs entry_of)) (more_cases count xs (ltb (length xs) count) refl)

some_slots : (e : Entry) → 1 ≤ length (slots_of e)
some_slots (Utf8 t) = lit≤ tt
some_slots (Integer n) = lit≤ tt
some_slots (Float n) = lit≤ tt
some_slots (Long n) = lit≤ tt
some_slots (Double n) = lit≤ tt
some_slots (Class k) = lit≤ tt
some_slots (Text k) = lit≤ tt
some_slots (Field k m) = lit≤ tt
some_slots (Method k m) = lit≤ tt
some_slots (InterfaceMethod k m) = lit≤ tt
some_slots (NameAndType k m) = lit≤ tt
some_slots (Handle k m) = lit≤ tt
some_slots (MethodType k) = lit≤ tt
some_slots (Dynamic k m) = lit≤ tt

walk_entries : (count n : ℕ) (p : Pool) (text : List ℕ) (q : Pool) → length p ≤ count → count ≤ length p + n → Walk (MoreR count) n p text q
    → (es : List Entry) × Each IsEntry text es × (p ++ flat_map slots_of es ≡ q) × (length q ≡ count)
walk_entries count zero p text q below enough h = ([], h.0, append-nil p ∙ h.1, sym (ap length h.1) ∙ omega arith)
walk_entries count (suc n) p text q below enough h =
    elim (split (ltb (length p) count) h.4) [
      | inl a ↦
          let e = a.1.0 in
          let len : length h.0 ≡ length p + length (slots_of e) = ap length (sym a.1.2) ∙ length-append p (slots_of e) in
          let lt = ltb-true _ _ a.0 in
          let more_of = some_slots e in
          let fits = a.1.1.fits in
          let rest = walk_entries count n h.0 h.2 q (omega arith) (omega arith) h.5 in
          (e ∷ rest.0, (h.1, h.2, h.3, a.1.1.stands, rest.1), rw flat_map-cons (sym (append_assoc p (slots_of e) (flat_map slots_of rest.0)) ∙ ap (λ (z : Pool). z ++ flat_map slots_of rest.0) a.1.2 ∙ rest.2), rest.3)
      | inr a ↦
          let le = ltb-false _ _ a.0 in
          let same : length h.0 ≡ length p = ap length (sym a.1.1) in
          let rest = walk_entries count n h.0 h.2 q (omega arith) (omega arith) h.5 in
          (rest.0, subst (λ (z : List ℕ). Each IsEntry z rest.0) (sym (h.3 ∙ ap (λ (z : List ℕ). z ++ h.2) a.1.0)) rest.1, ap (λ (z : Pool). z ++ flat_map slots_of rest.0) a.1.1 ∙ rest.2, rest.3)
    ]

longer : (p : Pool) (x : Entry) (es : List Entry) (q : Pool) → p ++ flat_map slots_of (x ∷ es) ≡ q → length q ≡ length p + length (slots_of x) + length (flat_map slots_of es)
longer p x es q e =
    let whole = ap length (sym e) ∙ length-append p (flat_map slots_of (x ∷ es)) in
    let inner = ap length (flat_map-cons slots_of x es) ∙ length-append (slots_of x) (flat_map slots_of es) in
    omega (arith, whole, inner)

on_true : (P Q : Type 0) (b : Bool) → b ≡ true → P → MatchBool b P Q
on_true P Q b is h = subst (λ (z : Bool). MatchBool z P Q) (sym is) h

on_false : (P Q : Type 0) (b : Bool) → b ≡ false → Q → MatchBool b P Q
on_false P Q b is h = subst (λ (z : Bool). MatchBool z P Q) (sym is) h

entries_walk : (count n : ℕ) (p : Pool) (text : List ℕ) (es : List Entry) (q : Pool) → p ++ flat_map slots_of es ≡ q → length q ≡ count → count ≤ length p + n → Each IsEntry text es → Walk (MoreR count) n p text q
entries_walk count zero p text [] q e len enough h = (h, sym (append-nil p) ∙ e)
entries_walk count zero p text (x ∷ es) q e len enough h = let parts = longer p x es q e in let more_of = some_slots x in absurd (omega arith)
entries_walk count (suc n) p text [] q e len enough h =
    let same : length p ≡ length q = ap length (sym (append-nil p) ∙ e) in
    (p, [], text, refl, on_false _ _ (ltb (length p) count) (le-ltb (length p) count (omega arith)) (refl, refl), entries_walk count n p text [] q e len (omega arith) h)
entries_walk count (suc n) p text (x ∷ es) q e len enough h =
    let parts = longer p x es q e in
    let more_of = some_slots x in
    let len' : length (p ++ slots_of x) ≡ length p + length (slots_of x) = length-append p (slots_of x) in
    let rest_is : (p ++ slots_of x) ++ flat_map slots_of es ≡ q = append_assoc p (slots_of x) (flat_map slots_of es) ∙ ap (λ (z : Pool). p ++ z) (sym (flat_map-cons slots_of x es)) ∙ e in
    (p ++ slots_of x, h.0, h.1, h.2, on_true _ _ (ltb (length p) count) (lt-ltb (length p) count (omega arith)) (x, record { stands = h.3; fits = omega arith }, refl), entries_walk count n (p ++ slots_of x) h.1 es q rest_is len (omega arith) h.4)

slots_by : (count : ℕ) → ExactBy pool_of (λ text q. (es : List Entry) × Each IsEntry text es × (flat_map slots_of es ≡ q) × (length q ≡ count)) (slots count)
slots_by count =
    by_same pool_of (Walk (MoreR count) count []) (λ text q. (es : List Entry) × Each IsEntry text es × (flat_map slots_of es ≡ q) × (length q ≡ count)) (slots count)
    (λ text q h. walk_entries count count [] text q (omega arith) (omega arith) h)
    (λ text q h. entries_walk count count [] text h.0 q h.2 h.3 (omega arith) h.1)
    (each_by pool_of (MoreR count) (more count) (more_by count) count [])

-- ---- the text of entries, one after the other

pub record AreEntries (text : List ℕ) (es : List Entry) : Type 0 where
  pub spelled : text ≡ flat_map entry_bytes es
  pub in_range : All InRange es
  pub texts : All HasText es

each_are : (text : List ℕ) (es : List Entry) → Each IsEntry text es → AreEntries text es
each_are text [] h = record { spelled = h; in_range = All-nil _; texts = All-nil _ }
each_are text (e ∷ es) h =
    let rest = each_are h.1 es h.4 in
    record {
      spelled = h.2 ∙ ap (λ (z : List ℕ). z ++ h.1) h.3.spelled ∙ ap (λ (z : List ℕ). entry_bytes e ++ z) rest.spelled;
      in_range = All-cons InRange e es h.3.in_range rest.in_range;
      texts = All-cons HasText e es h.3.has_text rest.texts;
    }

are_each : (es : List Entry) → All InRange es → All HasText es → Each IsEntry (flat_map entry_bytes es) es
are_each [] low has = refl
are_each (e ∷ es) low has =
    (entry_bytes e, flat_map entry_bytes es, refl, record { spelled = refl; in_range = All-head InRange e es low; has_text = All-head HasText e es has }, are_each es (All-tail InRange e es low) (All-tail HasText e es has))

-- ---- what indices name

of_kind_is : {A : Type 0} (place k : ℕ) (o : Option A) (a : A) → of_kind place k o ≡ fine a → o ≡ Some a
of_kind_is place k None a h = absurd cc
of_kind_is place k (Some b) a h = cc

found_is : {A : Type 0} (view : Entry → Option A) (place k : ℕ) (e : Option Entry) (a : A) → found view place k e ≡ fine a → option_and_then view e ≡ Some a
found_is view place k None a h = absurd cc
found_is view place k (Some e) a h = of_kind_is place k (view e) a h

is_found : {A : Type 0} (view : Entry → Option A) (place k : ℕ) (e : Option Entry) (a : A) → option_and_then view e ≡ Some a → found view place k e ≡ fine a
is_found view place k None a h = absurd cc
is_found view place k (Some e) a h = ap (of_kind place k) h

pub named_is : {A : Type 0} (view : Entry → Option A) (p : Pool) (place k : ℕ) (a : A) → named view p place k ≡ fine a → names view p k ≡ Some a
unfolding named
named_is view p place k a h = found_is view place k (entry_at p k) a h

pub is_named : {A : Type 0} (view : Entry → Option A) (p : Pool) (place k : ℕ) (a : A) → names view p k ≡ Some a → named view p place k ≡ fine a
unfolding named
is_named view p place k a h = is_found view place k (entry_at p k) a h

-- ---- what entries refer to

-- a judgement that was well, and one after it
judging_is : {A : Type 0} (r : Result A Fault) (s : Result (Unit {0}) Fault) (u : Unit {0}) → judging r (λ _. s) ≡ fine u → ((a : A) × (r ≡ fine a)) × (s ≡ fine u)
judging_is (Ok a) s u h = ((a, refl), h)
judging_is (Err d) s u h = absurd cc

is_judging : {A : Type 0} (r : Result A Fault) (s : Result (Unit {0}) Fault) (a : A) → r ≡ fine a → s ≡ fine tt → judging r (λ _. s) ≡ fine tt
is_judging r s a h g = rw h g

one_refers : {A : Type 0} (view : Entry → Option A) (p : Pool) (place k : ℕ) → judged_one view p place k ≡ fine tt → IsNamed view p k
one_refers view p place k h = let a = (judging_is (named view p place k) (fine tt) tt h).0 in (a.0, named_is view p place k a.0 a.1)

refers_one : {A : Type 0} (view : Entry → Option A) (p : Pool) (place k : ℕ) → IsNamed view p k → judged_one view p place k ≡ fine tt
refers_one view p place k h = is_judging (named view p place k) (fine tt) h.0 (is_named view p place k h.0 h.1) refl

two_refer : {A B : Type 0} (first : Entry → Option A) (second : Entry → Option B) (p : Pool) (place k m : ℕ) → judged_two first second p place k m ≡ fine tt → IsNamed first p k × IsNamed second p m
two_refer first second p place k m h =
    let a = judging_is (named first p place k) (judged_one second p (place + 2) m) tt h in
    ((a.0.0, named_is first p place k a.0.0 a.0.1), one_refers second p (place + 2) m a.1)

refer_two : {A B : Type 0} (first : Entry → Option A) (second : Entry → Option B) (p : Pool) (place k m : ℕ) → IsNamed first p k × IsNamed second p m → judged_two first second p place k m ≡ fine tt
refer_two first second p place k m h = is_judging (named first p place k) (judged_one second p (place + 2) m) h.0.0 (is_named first p place k h.0.0 h.0.1) (refers_one second p (place + 2) m h.1)

judged_refers : (p : Pool) (place : ℕ) (e : Entry) → judged_entry p place e ≡ fine tt → Refers p e
unfolding judged_entry
judged_refers p place (Utf8 t) h = tt
judged_refers p place (Integer n) h = tt
judged_refers p place (Float n) h = tt
judged_refers p place (Long n) h = tt
judged_refers p place (Double n) h = tt
judged_refers p place (Class k) h = one_refers as_text p (place + 1) k h
judged_refers p place (Text k) h = one_refers as_text p (place + 1) k h
judged_refers p place (Field k m) h = two_refer as_class as_name_and_type p (place + 1) k m h
judged_refers p place (Method k m) h = two_refer as_class as_name_and_type p (place + 1) k m h
judged_refers p place (InterfaceMethod k m) h = two_refer as_class as_name_and_type p (place + 1) k m h
judged_refers p place (NameAndType k m) h = two_refer as_text as_text p (place + 1) k m h
judged_refers p place (Handle k m) h = tt
judged_refers p place (MethodType k) h = tt
judged_refers p place (Dynamic k m) h = tt

refers_judged : (p : Pool) (place : ℕ) (e : Entry) → Refers p e → judged_entry p place e ≡ fine tt
unfolding judged_entry
refers_judged p place (Utf8 t) h = refl
refers_judged p place (Integer n) h = refl
refers_judged p place (Float n) h = refl
refers_judged p place (Long n) h = refl
refers_judged p place (Double n) h = refl
refers_judged p place (Class k) h = refers_one as_text p (place + 1) k h
refers_judged p place (Text k) h = refers_one as_text p (place + 1) k h
refers_judged p place (Field k m) h = refer_two as_class as_name_and_type p (place + 1) k m h
refers_judged p place (Method k m) h = refer_two as_class as_name_and_type p (place + 1) k m h
refers_judged p place (InterfaceMethod k m) h = refer_two as_class as_name_and_type p (place + 1) k m h
refers_judged p place (NameAndType k m) h = refer_two as_text as_text p (place + 1) k m h
refers_judged p place (Handle k m) h = refl
refers_judged p place (MethodType k) h = refl
refers_judged p place (Dynamic k m) h = refl

abbrev RefersSlot : Pool → Option Entry → Type 0
RefersSlot p None = Unit {0}
RefersSlot p (Some e) = Refers p e

judged_slot_refers : (p : Pool) (place : ℕ) (e : Option Entry) → judged_at p place e ≡ fine tt → RefersSlot p e
judged_slot_refers p place None h = tt
judged_slot_refers p place (Some e) h = judged_refers p place e h

refers_judged_slot : (p : Pool) (place : ℕ) (e : Option Entry) → RefersSlot p e → judged_at p place e ≡ fine tt
refers_judged_slot p place None h = refl
refers_judged_slot p place (Some e) h = refers_judged p place e h

all_refer : (p : Pool) (xs : List Placed) → checked (judged_slot p) xs ≡ fine tt → AllByRecursion (RefersSlot p) (pool_of xs)
unfolding checked
all_refer p [] h = tt
all_refer p (x ∷ xs) h =
    let a = judging_is (judged_slot p x) (checked (judged_slot p) xs) tt h in
    (judged_slot_refers p x.place x.entry a.0.1, all_refer p xs a.1)

refer_all : (p : Pool) (xs : List Placed) → AllByRecursion (RefersSlot p) (pool_of xs) → checked (judged_slot p) xs ≡ fine tt
unfolding checked
refer_all p [] h = refl
refer_all p (x ∷ xs) h = is_judging (judged_slot p x) (checked (judged_slot p) xs) tt (refers_judged_slot p x.place x.entry h.0) (refer_all p xs h.1)

first_refers : (p : Pool) (e : Entry) (rest : Pool) → AllByRecursion (RefersSlot p) (slots_of e ++ rest) → Refers p e × AllByRecursion (RefersSlot p) rest
first_refers p (Utf8 t) rest h = (h.0, h.1)
first_refers p (Integer n) rest h = (h.0, h.1)
first_refers p (Float n) rest h = (h.0, h.1)
first_refers p (Long n) rest h = (h.0, h.1.1)
first_refers p (Double n) rest h = (h.0, h.1.1)
first_refers p (Class k) rest h = (h.0, h.1)
first_refers p (Text k) rest h = (h.0, h.1)
first_refers p (Field k m) rest h = (h.0, h.1)
first_refers p (Method k m) rest h = (h.0, h.1)
first_refers p (InterfaceMethod k m) rest h = (h.0, h.1)
first_refers p (NameAndType k m) rest h = (h.0, h.1)
first_refers p (Handle k m) rest h = (h.0, h.1)
first_refers p (MethodType k) rest h = (h.0, h.1)
first_refers p (Dynamic k m) rest h = (h.0, h.1)

refers_first : (p : Pool) (e : Entry) (rest : Pool) → Refers p e → AllByRecursion (RefersSlot p) rest → AllByRecursion (RefersSlot p) (slots_of e ++ rest)
refers_first p (Utf8 t) rest h more = (h, more)
refers_first p (Integer n) rest h more = (h, more)
refers_first p (Float n) rest h more = (h, more)
refers_first p (Long n) rest h more = (h, (tt, more))
refers_first p (Double n) rest h more = (h, (tt, more))
refers_first p (Class k) rest h more = (h, more)
refers_first p (Text k) rest h more = (h, more)
refers_first p (Field k m) rest h more = (h, more)
refers_first p (Method k m) rest h more = (h, more)
refers_first p (InterfaceMethod k m) rest h more = (h, more)
refers_first p (NameAndType k m) rest h more = (h, more)
refers_first p (Handle k m) rest h more = (h, more)
refers_first p (MethodType k) rest h more = (h, more)
refers_first p (Dynamic k m) rest h more = (h, more)

slots_refer : (p : Pool) (es : List Entry) → AllByRecursion (RefersSlot p) (flat_map slots_of es) → All (Refers p) es
slots_refer p [] h = All-nil _
slots_refer p (e ∷ es) h = let a = first_refers p e (flat_map slots_of es) h in All-cons (Refers p) e es a.0 (slots_refer p es a.1)

refer_slots : (p : Pool) (es : List Entry) → All (Refers p) es → AllByRecursion (RefersSlot p) (flat_map slots_of es)
refer_slots p [] h = tt
refer_slots p (e ∷ es) h = refers_first p e (flat_map slots_of es) (All-head (Refers p) e es h) (refer_slots p es (All-tail (Refers p) e es h))

-- ---- the pool

abbrev SlotsR : ℕ → List ℕ → Pool → Type 0
SlotsR count text q = (es : List Entry) × Each IsEntry text es × (flat_map slots_of es ≡ q) × (length q ≡ count)

abbrev JudgedR : Pool → List ℕ → Pool → Type 0
JudgedR p text q = (text ≡ []) × (p ≡ q) × AllByRecursion (RefersSlot p) p

judged_exact : (xs : List Placed) → Exact (JudgedR (pool_of xs)) (lifted (checked (judged_slot (pool_of xs)) xs) >>= λ _. done (pool_of xs))
judged_exact xs =
    let p = pool_of xs in
    Exact-same (λ text q. (u : Unit {0}) × IsAnswer (checked (judged_slot p) xs) text u × (p ≡ q)) (JudgedR p) (lifted (checked (judged_slot p) xs) >>= λ _. done p)
    (λ text q h. (h.1.0, h.2, all_refer p xs h.1.1))
    (λ text q h. (tt, (h.0, refer_all p xs h.2), h.1))
    (mapped_exact (IsAnswer (checked (judged_slot p) xs)) (lifted (checked (judged_slot p) xs)) (λ _. p) (lifted_exact (checked (judged_slot p) xs)))

abbrev EntriesR : ℕ → List ℕ → Pool → Type 0
EntriesR zero = λ text q. ⊥
EntriesR (suc count) = Then (SlotsR count) JudgedR

entries_exact : (at count : ℕ) → Exact (EntriesR count) (entries at count)
entries_exact at zero = refused_exact (EntriesR 0) at bad.PoolCount (λ text x h. h)
entries_exact at (suc count) =
    exact_by (Then (SlotsR count) JudgedR) (entries at (suc count))
    (by_then pool_of (λ x. x) (SlotsR count) JudgedR (slots count) (λ placed. lifted (checked (judged_slot (pool_of placed)) placed) >>= λ _. done (pool_of placed)) (slots_by count) (λ xs. by_exact_same (JudgedR (pool_of xs)) _ (judged_exact xs)))

pool_parts : (text : List ℕ) (p : Pool) (count : ℕ) (first second : List ℕ) → text ≡ first ++ second → IsU16 first count → EntriesR count second p → IsPool text p
pool_parts text p zero first second parts is h = absurd h
pool_parts text p (suc count) first second parts is h =
    let es = h.4.0 in
    let n : suc count ≡ length p + 1 = omega (arith, h.4.3, ap length h.5.1) in
    let whole : second ≡ h.1 = h.3 ∙ ap (λ (z : List ℕ). h.1 ++ z) h.5.0 ∙ append-nil h.1 in
    let are = each_are h.1 es h.4.1 in
    let slots_are : flat_map slots_of es ≡ p = h.4.2 ∙ h.5.1 in
    record {
      entries = es;
      small = subst (λ (k : ℕ). k < 2 ^ 16) n is.0;
      spelled = parts ∙ ap (λ (z : List ℕ). z ++ second) (is.1 ∙ ap (to_be_bytes w16) n) ∙ ap (λ (z : List ℕ). to_be_bytes w16 (length p + 1) ++ z) (whole ∙ are.spelled);
      in_range = are.in_range;
      texts = are.texts;
      indices = sym slots_are;
      refers = slots_refer p es (subst (λ (z : Pool). AllByRecursion (RefersSlot p) z) (sym slots_are) (subst (λ (z : Pool). AllByRecursion (RefersSlot z) z) h.5.1 h.5.2));
    }

parts_pool : (text : List ℕ) (p : Pool) → IsPool text p → Then IsU16 EntriesR text p
parts_pool text p h =
    let count : suc (length p) ≡ length p + 1 = sym (add-one (length p)) in
    let first = to_be_bytes w16 (length p + 1) in
    let second = flat_map entry_bytes h.entries in
    let are = are_each h.entries h.in_range h.texts in
    let refer = subst (λ (z : Pool). AllByRecursion (RefersSlot p) z) (sym h.indices) (refer_slots p h.entries h.refers) in
    (suc (length p), first, second, h.spelled, subst (λ (k : ℕ). IsU16 first k) (sym count) (h.small, refl), (p, second, [], sym (append-nil second), (h.entries, are, sym h.indices, refl), (refl, refl, refer)))

pub pool_exact : Exact IsPool pool
unfolding pool
pool_exact =
    Exact-same (Then IsU16 EntriesR) IsPool (here >>= λ at. number w16 >>= λ count. entries at count)
    (λ text p h. pool_parts text p h.0 h.1 h.2 h.3 h.4 h.5)
    parts_pool
    (here_exact (Then IsU16 EntriesR) (λ at. number w16 >>= λ count. entries at count) (λ at. then_exact IsU16 EntriesR (number w16) (entries at) u16_exact (entries_exact at)))

-- ---- the pool that bytes begin with

pub decoded_begins : (text : List ℕ) (p : Pool) (at : ℕ) (rest : List ℕ) → IsBytes text → pool (from 0 text) ≡ answer p (from at rest) → BeginsWithPool text p at
decoded_begins text p at rest fits h =
    let t = pool_exact.takes (from 0 text) p (from at rest) fits h in
    let moved : at ≡ length t.text = t.moved ∙ zero-add (length t.text) in
    let front : take at text ≡ t.text = ap (take at) t.parts ∙ take_at t.text rest at (sym moved) in
    record {
      within = omega (arith, ap length t.parts, length-append t.text rest);
      stands = subst (λ (z : List ℕ). IsPool z p) (sym front) t.stands;
    }

pub begins_decoded : (bytes text rest : List ℕ) (p : Pool) → IsPool text p → bytes ≡ text ++ rest → decoded bytes ≡ Ok (p, length text)
begins_decoded bytes text rest p is parts =
    ap (λ (z : List ℕ). counted (pool (from 0 z))) parts ∙ ap counted (pool_exact.again 0 text rest p is) ∙ ap (λ (k : ℕ). let r : Result (Pool × ℕ) Fault = Ok (p, k) in r) (zero-add (length text))

-- what refuses bytes that begin with a pool is want of memory
pub only_memory : (e : BadClass) (bytes text rest : List ℕ) (p : Pool) → Fails e (pool (from 0 bytes)) → IsPool text p → bytes ≡ text ++ rest → Fails {Y = Pool × ℕ} e (Ok (p, length text))
only_memory errors.Memory bytes text rest p h is parts = tt
only_memory (errors.Bad place kind) bytes text rest p h is parts =
    let refused = ap counted h in
    let read = begins_decoded bytes text rest p is parts in
    absurd cc

-- ---- an index, and what it names

pub indexed_exact : {A : Type 0} (view : Entry → Option A) (p : Pool) → Exact (Indexes view p) (indexed view p)
unfolding indexed
indexed_exact {A} view p =
    let S : ℕ → List ℕ → A → Type 0 = λ k text a. (text ≡ []) × (names view p k ≡ Some a) in
    Exact-same (Then IsU16 S) (Indexes view p) (here >>= λ at. number w16 >>= λ k. lifted (named view p at k))
    (λ text a h. (h.0, subst (λ (z : List ℕ). IsU16 z h.0) (sym (h.3 ∙ ap (λ (z : List ℕ). h.1 ++ z) h.5.0 ∙ append-nil h.1)) h.4, h.5.1))
    (λ text a h. (h.0, text, [], sym (append-nil text), h.1, (refl, h.2)))
    (here_exact (Then IsU16 S) (λ at. number w16 >>= λ k. lifted (named view p at k)) (λ at.
    then_exact IsU16 S (number w16) (λ k. lifted (named view p at k)) u16_exact
    (λ k. Exact-same (IsAnswer (named view p at k)) (S k) (lifted (named view p at k))
    (λ text a h. (h.0, named_is view p at k a h.1))
    (λ text a h. (h.0, is_named view p at k a h.1))
    (lifted_exact (named view p at k)))))
