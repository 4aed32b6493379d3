-- An entry that is put into a pool has one index, that of an equal entry or a new one.
use Rattle.std.proofs.Common.{rules, ◌≡◌, ◌⊎◌, inl, inr, ◌∙◌, ℕ, zero, suc, ◌+◌, ◌-◌, Bool, true, false, cond, eqb, [], ◌∷◌, ◌++◌, length, Option, Some, None, Result, Ok, Err, slice_get, refl, sym, ap, subst, arith, ltb}
use Rattle.std.specs.Bool.{Decides}
use Rattle.std.proofs.lemmas.Grind.{common_steps}
use Rattle.std.proofs.lemmas.Bool.{ne_eqb}
use Rattle.const_pool.specs.declared.entry.Entry.{Entry}
use Rattle.const_pool.specs.declared.entry.Entry.TheVariants as entries
use Rattle.const_pool.specs.declared.editor.PoolStop.{PoolStop}
use Rattle.const_pool.specs.declared.editor.PoolStop.TheVariants.{Full, Memory}
use Rattle.const_pool.specs.Pool.{Pool, entry_at, slot_entry, slots_of}
use Rattle.const_pool.specs.Editor.{Holds, last_index, AddsNew, FindsOld}
use Rattle.pool_names.specs.Same.{same_entry, is_slot}
use Rattle.pool_names.specs.Adding.{Puts, IsDistinct, index_from, found_or_new, add_entry}

same_decides : (x y : Entry) → Decides (same_entry x y) (x ≡ y)
same_decides x y = search (rules, common_steps)

-- ---- places and indices

slot_is : (o : Option (Option Entry)) (e : Entry) → slot_entry o ≡ Some e → o ≡ Some (Some e)
slot_is None e h = absurd cc
slot_is (Some s) e h = ap (λ (z : Option Entry). Some z) h

pub place_at : (p : Pool) (k : ℕ) (e : Entry) → entry_at p k ≡ Some e → (i : ℕ) × (k ≡ i + 1) × (slice_get p i ≡ Some (Some e))
place_at p k e h = by (eqb k 0) refl h
  where
    by : (b : Bool) → eqb k 0 ≡ b → cond b None (slot_entry (slice_get p (k - 1))) ≡ Some e → (i : ℕ) × (k ≡ i + 1) × (slice_get p i ≡ Some (Some e))
    by true is g = absurd cc
    by false is g = (k - 1, grind (arith, common_steps), slot_is (slice_get p (k - 1)) e g)

pub index_at : (p : Pool) (i : ℕ) (e : Entry) → slice_get p i ≡ Some (Some e) → entry_at p (i + 1) ≡ Some e
index_at p i e h =
    let some : eqb (i + 1) 0 ≡ false = ne_eqb (i + 1) 0 (λ none. absurd (omega (arith, none))) in
    let place : i + 1 - 1 ≡ i = omega arith in
    rw (some, place) (ap slot_entry h)

-- ---- the first equal entry

is_slot_same : (e : Entry) (s : Option Entry) → is_slot e s ≡ true → s ≡ Some e
is_slot_same e None h = absurd cc
is_slot_same e (Some x) h = ap (λ (z : Entry). Some z) (sym ((same_decides e x).0 h))

same_is_slot : (e : Entry) (s : Option Entry) → s ≡ Some e → is_slot e s ≡ true
same_is_slot e s h = subst (λ (z : Option Entry). is_slot e z ≡ true) (sym h) ((same_decides e e).1 refl)

found_place : (e : Entry) (p : Pool) (k m : ℕ) → index_from k e p ≡ Some m → (i : ℕ) × (m ≡ k + i) × (slice_get p i ≡ Some (Some e))
found_place e [] k m h = absurd cc
found_place e (slot ∷ p) k m h = by (is_slot e slot) refl h (λ g. found_place e p (k + 1) m g)
  where
    by : (b : Bool) → is_slot e slot ≡ b → cond b (Some k) (index_from (k + 1) e p) ≡ Some m → (index_from (k + 1) e p ≡ Some m → (i : ℕ) × (m ≡ k + 1 + i) × (slice_get p i ≡ Some (Some e))) → (i : ℕ) × (m ≡ k + i) × (slice_get (slot ∷ p) i ≡ Some (Some e))
    by true is g rest = (0, (let same : m ≡ k = cc in omega (arith, same)), ap (λ (z : Option Entry). Some z) (is_slot_same e slot is))
    by false is g rest = let there = rest g in (suc there.0, omega (arith, there.1), there.2)

absent_place : (e : Entry) (p : Pool) (k i : ℕ) → index_from k e p ≡ None → slice_get p i ≡ Some (Some e) → ⊥
absent_place e [] k i h g = absurd cc
absent_place e (slot ∷ p) k i h g = by (is_slot e slot) refl i h g (λ j. absent_place e p (k + 1) j)
  where
    by : (b : Bool) → is_slot e slot ≡ b → (i : ℕ) → cond b (Some k) (index_from (k + 1) e p) ≡ None → slice_get (slot ∷ p) i ≡ Some (Some e) → ((j : ℕ) → index_from (k + 1) e p ≡ None → slice_get p j ≡ Some (Some e) → ⊥) → ⊥
    by true is i h g rest = absurd cc
    by false is zero h g rest = let same : slot ≡ Some e = cc in let yes = same_is_slot e slot same in absurd cc
    by false is (suc i) h g rest = rest i h g

pub found_index : (e : Entry) (p : Pool) (m : ℕ) → index_from 1 e p ≡ Some m → entry_at p m ≡ Some e
found_index e p m h =
    let there = found_place e p 1 m h in
    let index : m ≡ there.0 + 1 = omega (arith, there.1) in
    rw index (index_at p there.0 e there.2)

absent_index : (e : Entry) (p : Pool) → index_from 1 e p ≡ None → Holds p e → ⊥
absent_index e p h held = let there = place_at p held.0 e held.1 in absent_place e p 1 there.0 h there.2

-- ---- what a pool that keeps each entry once answers

abbrev answered : ℕ → Result ℕ PoolStop
answered k = Ok k

some_number : {A : Type 0} (x y : A) → (let o : Result A ℕ = Ok x in o) ≡ Ok y → x ≡ y
some_number x y h = cc

pub puts_entry : (e : Entry) (p q : Pool) (result : Result ℕ PoolStop) → IsDistinct p → ((k : ℕ) → result ≡ answered k → entry_at q k ≡ Some e) → (Holds p e → FindsOld p e result q) → ((Holds p e → ⊥) → AddsNew p e result q) → Puts result q (add_entry e p)
unfolding add_entry
puts_entry e p q result distinct named old new = by (index_from 1 e p) refl
  where
    found : (m : ℕ) (r : Result ℕ PoolStop) → entry_at p m ≡ Some e → ((k : ℕ) → r ≡ answered k → entry_at q k ≡ Some e) → FindsOld p e r q → Puts r q (found_or_new e p (Some m))
    found m (Ok k) here named same =
        let is : k ≡ m = distinct e k m (subst (λ (z : Pool). entry_at z k ≡ Some e) same (named k refl)) here in
        rw (is, same) refl
    found m (Err (Full last)) here named same = absurd same
    found m (Err Memory) here named same = tt

    added : (r : Result ℕ PoolStop) → AddsNew p e r q → Puts r q (found_or_new e p None)
    added (Ok k) h =
        let room : ltb 65534 (last_index p e) ≡ false = grind (arith, common_steps, h.0) in
        rw (room, h.1, h.2) refl
    added (Err (Full last)) h =
        let none : ltb 65534 (last_index p e) ≡ true = grind (arith, common_steps, h.0) in
        rw (none, h.1) refl
    added (Err Memory) h = tt

    by : (o : Option ℕ) → index_from 1 e p ≡ o → Puts result q (found_or_new e p o)
    by None is = added result (new (absent_index e p is))
    by (Some m) is = let here = found_index e p m is in found m result here named (old (m, here))

-- ---- it keeps each entry once

old_or_new : (p : Pool) (e x : Entry) (i : ℕ) → slice_get (p ++ slots_of e) i ≡ Some (Some x) → (slice_get p i ≡ Some (Some x)) ⊎ ((x ≡ e) × (i ≡ length p))
old_or_new [] e x i h = inr (new e i h)
  where
    new_two : (e : Entry) (i : ℕ) → slice_get (Some e ∷ None ∷ []) i ≡ Some (Some x) → (x ≡ e) × (i ≡ 0)
    new_two e zero h = (cc, refl)
    new_two e (suc zero) h = absurd cc
    new_two e (suc (suc i)) h = absurd cc

    new_one : (e : Entry) (i : ℕ) → slice_get (Some e ∷ []) i ≡ Some (Some x) → (x ≡ e) × (i ≡ 0)
    new_one e zero h = (cc, refl)
    new_one e (suc i) h = absurd cc

    new : (e : Entry) (i : ℕ) → slice_get (slots_of e) i ≡ Some (Some x) → (x ≡ e) × (i ≡ 0)
    new (entries.Long n) i h = new_two (entries.Long n) i h
    new (entries.Double bits) i h = new_two (entries.Double bits) i h
    new e i h = new_one e i h
old_or_new (s ∷ p) e x zero h = inl h
old_or_new (s ∷ p) e x (suc i) h =
    elim (old_or_new p e x i h) [
      | inl old ↦ inl old
      | inr new ↦ inr (new.0, omega (arith, new.1))
    ]

-- an entry of the pool with a new last one
old_or_last : (p : Pool) (e x : Entry) (k : ℕ) → entry_at (p ++ slots_of e) k ≡ Some x → (entry_at p k ≡ Some x) ⊎ ((x ≡ e) × (k ≡ length p + 1))
old_or_last p e x k h =
    let there = place_at (p ++ slots_of e) k x h in
    elim (old_or_new p e x there.0 there.2) [
      | inl old ↦ inl (subst (λ (z : ℕ). entry_at p z ≡ Some x) (sym there.1) (index_at p there.0 x old))
      | inr new ↦ inr (new.0, omega (arith, there.1, new.1))
    ]

distinct_more : (p : Pool) (e : Entry) → IsDistinct p → (Holds p e → ⊥) → IsDistinct (p ++ slots_of e)
distinct_more p e distinct absent x k m h g =
    elim (old_or_last p e x k h) [
      | inl old ↦ elim (old_or_last p e x m g) [
        | inl there ↦ distinct x k m old there
        | inr new ↦ absurd (absent (k, old ∙ ap (λ (z : Entry). Some z) new.0))
      ]
      | inr new ↦ elim (old_or_last p e x m g) [
        | inl old ↦ absurd (absent (m, old ∙ ap (λ (z : Entry). Some z) new.0))
        | inr also ↦ new.1 ∙ sym also.1
      ]
    ]

pub stays_distinct : (e : Entry) (p q : Pool) (result : Result ℕ PoolStop) → IsDistinct p → ((stop : PoolStop) → result ≡ Err stop → q ≡ p) → (Holds p e → FindsOld p e result q) → ((Holds p e → ⊥) → AddsNew p e result q) → IsDistinct q
stays_distinct e p q (Ok k) distinct kept old new = by (index_from 1 e p) refl
  where
    by : (o : Option ℕ) → index_from 1 e p ≡ o → IsDistinct q
    by None is = let absent = absent_index e p is in subst IsDistinct (sym (new absent).2) (distinct_more p e distinct absent)
    by (Some m) is = subst IsDistinct (sym (old (m, found_index e p m is))) distinct
stays_distinct e p q (Err stop) distinct kept old new = subst IsDistinct (sym (kept stop refl)) distinct
