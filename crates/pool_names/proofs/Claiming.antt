-- What is claimed of things that are put into a pool one after the other.
use Rattle.std.proofs.Common.{◌≡◌, ℕ, ◌+◌, ◌<◌, ◌≤◌, ◌^◌, Bool, true, false, cond, ◌++◌, length, Option, Some, None, Result, Ok, Err, refl, ap, subst, arith, ltb}
use Rattle.std.proofs.lemmas.Option.{slice_get_within}
use Rattle.const_pool.specs.declared.entry.Entry.{Entry}
use Rattle.const_pool.specs.Pool.{Pool, entry_at, slots_of}
use Rattle.const_pool.specs.Editor.{Extends, last_index}
use Rattle.const_pool.proofs.EditorLaws.{append_extends, entry_new}
use Rattle.pool_names.specs.Adding.{Adding, bind, ◌>>=◌, done, index_from, found_or_new, add_entry, Unfit, Past}
use Rattle.pool_names.specs.Claims.{Becomes, Claims, IsIndex}
use Rattle.pool_names.proofs.Entries.{place_at, found_index}

pub extends_same : (p : Pool) → Extends p p
extends_same p k e h = h

pub extends_then : (p q r : Pool) → Extends p q → Extends q r → Extends p r
extends_then p q r first second k e h = second k e (first k e h)

becomes_from : (p q r : Pool) → Extends p q → Becomes q r → Becomes p r
becomes_from p q r grows b = record { extends = extends_then p q r grows b.extends; small = b.small }

-- ---- one entry

abbrev pub given : {A : Type 0} → Pool → A → Result (Pool × A) Unfit
given q a = Ok (q, a)

given_same : {A : Type 0} (p q : Pool) (a b : A) → given p a ≡ given q b → (p ≡ q) × (a ≡ b)
given_same {A} p q a b h = let pairs : (let x : Pool × A = (p, a) in x) ≡ (q, b) = cc in (ap (λ (x : Pool × A). x.0) pairs, ap (λ (x : Pool × A). x.1) pairs)

-- the pool goes on from the one before, and the entry stands at the index
abbrev Added : Entry → Pool → Pool → ℕ → Type 0
Added e p q k = Extends p q × (entry_at q k ≡ Some e)

same_added : (e : Entry) (p q p' : Pool) (k m : ℕ) → given p' m ≡ given q k → Added e p p' m → Added e p q k
same_added e p q p' k m h added =
    let same = given_same p' q m k h in
    subst (λ (z : Pool). Added e p z k) same.0 (subst (λ (z : ℕ). Added e p p' z) same.1 added)

pub added : (e : Entry) (p q : Pool) (k : ℕ) → add_entry e p ≡ given q k → Added e p q k
unfolding add_entry
added e p q k h = by (index_from 1 e p) refl h
  where
    new : (b : Bool) → cond b (Err (Past (last_index p e))) (given (p ++ slots_of e) (length p + 1)) ≡ given q k → Added e p q k
    new true h = absurd cc
    new false h = same_added e p q (p ++ slots_of e) k (length p + 1) h (append_extends p (slots_of e), entry_new p e)

    by : (o : Option ℕ) → index_from 1 e p ≡ o → found_or_new e p o ≡ given q k → Added e p q k
    by (Some m) is h = same_added e p q p k m h (extends_same p, found_index e p m is)
    by None is h = new (ltb 65534 (last_index p e)) h

index_small : (r : Pool) (k : ℕ) (e : Entry) → entry_at r k ≡ Some e → length r ≤ 65534 → k < 2 ^ 16
index_small r k e h small =
    let there = place_at r k e h in
    omega (arith, there.1, small, slice_get_within r there.0 (Some e) there.2)

-- an index at which this entry stands
abbrev pub StandsAt : Pool → ℕ → Entry → Type 0
StandsAt r k e = entry_at r k ≡ Some e

pub add_claims : (e : Entry) → Claims (IsIndex StandsAt e) (add_entry e)
add_claims e = record {
  each = λ p q k h.
      let is = added e p q k h in
      record {
        grows = is.0;
        holds = λ r b. let there = b.extends k e is.1 in (index_small r k e there b.small, there);
      };
}

-- ---- one after the other

-- the same things by another claim that follows from this one
pub claims_as : {A : Type 0} (C D : Pool → A → Type 0) (m : Adding A) → ((r : Pool) (a : A) → C r a → D r a) → Claims C m → Claims D m
claims_as C D m to claims = record {
  each = λ p q a h. let c = claims.each p q a h in record { grows = c.grows; holds = λ r b. to r a (c.holds r b) };
}

pub done_claims : {A : Type 0} (a : A) → Claims (λ r b. a ≡ b) (done a)
done_claims {A} a = record {
  each = λ p q b h.
      let same = given_same p q a b h in
      record { grows = subst (Extends p) same.0 (extends_same p); holds = λ r c. same.1 };
}

-- first one thing, and then what goes on from it
abbrev pub Then : {A B : Type 0} → (Pool → A → Type 0) → (A → Pool → B → Type 0) → Pool → B → Type 0
Then {A} C D r b = (a : A) × C r a × D a r b

pub bind_is : {A B : Type 0} (o : Result (Pool × A) Unfit) (f : A → Adding B) (q : Pool) (b : B) → bind o f ≡ given q b → (p : Pool) × (a : A) × (o ≡ given p a) × (f a p ≡ given q b)
bind_is (Ok x) f q b h = (x.0, x.1, refl, h)
bind_is (Err last) f q b h = absurd cc

pub then_claims : {A B : Type 0} (C : Pool → A → Type 0) (D : A → Pool → B → Type 0) (m : Adding A) (f : A → Adding B) → Claims C m → ((a : A) → Claims (D a) (f a)) → Claims (Then C D) (m >>= f)
then_claims {A} {B} C D m f first second = record {
  each = λ p q b h.
      let parts = bind_is (m p) f q b h in
      let c = first.each p parts.0 parts.1 parts.2 in
      let d = (second parts.1).each parts.0 q b parts.3 in
      record {
        grows = extends_then p parts.0 q c.grows d.grows;
        holds = λ r b. (parts.1, c.holds r (becomes_from parts.0 q r d.grows b), d.holds r b);
      };
}
