-- A pool that grows keeps what it has.
use Rattle.std.proofs.Common.{rules, ◌≡◌, ◌⊎◌, inl, inr, ◌∙◌, ℕ, zero, suc, ◌+◌, ◌-◌, ◌<◌, ◌≤◌, Bool, true, false, cond, eqb, List, [], ◌∷◌, ◌++◌, length, Option, Some, None, Contains, All, slice_get, get_or, position, refl, sym, ap, subst, arith, ltb, true≢false}
use Rattle.std.specs.Bool.{Decides}
use Rattle.std.specs.List.{flat_map, position_or_len}
use Rattle.std.specs.Map.{keys_of}
use Rattle.std.specs.Prelude.{option_and_then}
use Rattle.std.proofs.lemmas.Bool.{ne_eqb, lt-ltb}
use Rattle.std.proofs.lemmas.Grind.{common_steps}
use Rattle.std.proofs.lemmas.List.{map-append, length-append, append-nil}
use Rattle.std.proofs.lemmas.List.Concat.{flat_map-append}
use Rattle.std.proofs.lemmas.List.Quantifiers.{position-Some}
use Rattle.std.proofs.lemmas.List.Elements.{All-push, All-weaker, All-contains}
use Rattle.std.proofs.lemmas.Option.{slice_get-get_or}
use Rattle.const_pool.specs.declared.entry.Entry.{Entry}
use Rattle.const_pool.specs.declared.entry.Entry.TheVariants.{Utf8, Integer, Float, Long, Double, Class, Text, Field, Method, InterfaceMethod, NameAndType, Handle, MethodType, Dynamic}
use Rattle.const_pool.specs.contracts.entry.EntryPartialEq.TheImpl.{eq-value}
use Rattle.const_pool.specs.Pool.{Pool, HasText, entry_at, slot_entry, as_text, as_class, as_name_and_type, IsNamed, Refers, slots_of}
use Rattle.const_pool.specs.Editor.{Holds, Extends, pool_of_rows, IsEditor}
use Rattle.indexmap.specs.IndexMap.{insert_entry}

abbrev pub same : Entry → Entry → Bool
same x y = eq-value.it x y

entries_decide : (x y : Entry) → Decides (same x y) (x ≡ y)
entries_decide x y = search (rules, common_steps)

-- ---- what stands at a place, with more behind

slot_front : (p q : Pool) (i : ℕ) (s : Option Entry) → slice_get p i ≡ Some s → slice_get (p ++ q) i ≡ Some s
slot_front [] q i s h = absurd cc
slot_front (x ∷ p) q zero s h = h
slot_front (x ∷ p) q (suc i) s h = slot_front p q i s h

slot_is : (o : Option (Option Entry)) (e : Entry) → slot_entry o ≡ Some e → o ≡ Some (Some e)
slot_is None e h = absurd cc
slot_is (Some s) e h = ap (λ (z : Option Entry). Some z) h

-- ---- a pool with more behind it

entry_front : (p q : Pool) (k : ℕ) (e : Entry) → entry_at p k ≡ Some e → entry_at (p ++ q) k ≡ Some e
entry_front p q k e h = by (eqb k 0) h
  where
    by : (b : Bool) → cond b None (slot_entry (slice_get p (k - 1))) ≡ Some e → cond b None (slot_entry (slice_get (p ++ q) (k - 1))) ≡ Some e
    by true h = absurd cc
    by false h = ap slot_entry (slot_front p q (k - 1) (Some e) (slot_is (slice_get p (k - 1)) e h))

pub append_extends : (p q : Pool) → Extends p (p ++ q)
append_extends p q k e h = entry_front p q k e h

-- what an index names, by the entry that it names
pub named_by : {A : Type 0} (view : Entry → Option A) (p : Pool) (k : ℕ) (e : Entry) (a : A) → entry_at p k ≡ Some e → view e ≡ Some a → IsNamed view p k
named_by view p k e a is h = (a, ap (option_and_then view) is ∙ h)

-- what an index names, and what an entry refers to, stay
pub named_extends : {A : Type 0} (view : Entry → Option A) (p q : Pool) (k : ℕ) → Extends p q → IsNamed view p k → IsNamed view q k
named_extends view p q k extends h = by (entry_at p k) refl h.1
  where
    by : (o : Option Entry) → entry_at p k ≡ o → option_and_then view o ≡ Some h.0 → IsNamed view q k
    by None is g = absurd cc
    by (Some e) is g = named_by view q k e h.0 (extends k e is) g

pub refers_extends : (p q : Pool) (e : Entry) → Extends p q → Refers p e → Refers q e
refers_extends p q (Utf8 t) x h = tt
refers_extends p q (Integer n) x h = tt
refers_extends p q (Float n) x h = tt
refers_extends p q (Long n) x h = tt
refers_extends p q (Double n) x h = tt
refers_extends p q (Class k) x h = named_extends as_text p q k x h
refers_extends p q (Text k) x h = named_extends as_text p q k x h
refers_extends p q (Field k m) x h = (named_extends as_class p q k x h.0, named_extends as_name_and_type p q m x h.1)
refers_extends p q (Method k m) x h = (named_extends as_class p q k x h.0, named_extends as_name_and_type p q m x h.1)
refers_extends p q (InterfaceMethod k m) x h = (named_extends as_class p q k x h.0, named_extends as_name_and_type p q m x h.1)
refers_extends p q (NameAndType k m) x h = (named_extends as_text p q k x h.0, named_extends as_text p q m x h.1)
refers_extends p q (Handle k m) x h = tt
refers_extends p q (MethodType k) x h = tt
refers_extends p q (Dynamic k m) x h = tt

-- ---- a new last entry

slot_behind : (p q : Pool) (s : Option Entry) → slice_get (p ++ (s ∷ q)) (length p) ≡ Some s
slot_behind [] q s = refl
slot_behind (x ∷ p) q s = slot_behind p q s

-- an entry takes one index, or two with nothing at the second
slots_shape : (e : Entry) → (slots_of e ≡ Some e ∷ []) ⊎ (slots_of e ≡ Some e ∷ None ∷ [])
slots_shape (Utf8 t) = inl refl
slots_shape (Integer n) = inl refl
slots_shape (Float n) = inl refl
slots_shape (Long n) = inr refl
slots_shape (Double n) = inr refl
slots_shape (Class k) = inl refl
slots_shape (Text k) = inl refl
slots_shape (Field k m) = inl refl
slots_shape (Method k m) = inl refl
slots_shape (InterfaceMethod k m) = inl refl
slots_shape (NameAndType k m) = inl refl
slots_shape (Handle k m) = inl refl
slots_shape (MethodType k) = inl refl
slots_shape (Dynamic k m) = inl refl

index_behind : (p q : Pool) (e : Entry) → entry_at (p ++ (Some e ∷ q)) (length p + 1) ≡ Some e
index_behind p q e =
    let some : eqb (length p + 1) 0 ≡ false = ne_eqb (length p + 1) 0 (λ none. absurd (omega (arith, none))) in
    let place : length p + 1 - 1 ≡ length p = omega arith in
    rw (some, place) (ap slot_entry (slot_behind p q (Some e)))

pub entry_new : (p : Pool) (e : Entry) → entry_at (p ++ slots_of e) (length p + 1) ≡ Some e
entry_new p e =
    elim (slots_shape e) [
      | inl is ↦ rw is (index_behind p [] e)
      | inr is ↦ rw is (index_behind p (None ∷ []) e)
    ]

rows_more : (rows : List (Entry × ℕ)) (e : Entry) (k : ℕ) → pool_of_rows (rows ++ (e, k) ∷ []) ≡ pool_of_rows rows ++ slots_of e
rows_more rows e k =
    let keys : keys_of (rows ++ (e, k) ∷ []) ≡ keys_of rows ++ e ∷ [] = map-append (λ (row : Entry × ℕ). row.0) rows ((e, k) ∷ []) in
    ap (flat_map slots_of) keys ∙ flat_map-append slots_of (keys_of rows) (e ∷ []) ∙ ap (λ (z : Pool). pool_of_rows rows ++ z) (append-nil (slots_of e))

abbrev row_of : Entry → ℕ → Entry × ℕ
row_of e k = (e, k)

pub editor_more : (rows : List (Entry × ℕ)) (taken : ℕ) (e : Entry) (k last : ℕ) → IsEditor rows taken → HasText e → Refers (pool_of_rows rows) e → k ≡ taken + 1 → last ≡ taken + length (slots_of e) → last ≤ 65534
    → IsEditor (rows ++ (e, k) ∷ []) last
editor_more rows taken e k last is text refers index count small =
    let p = pool_of_rows rows in
    let q = slots_of e in
    let longer = rows_more rows e k in
    let keys : keys_of (rows ++ row_of e k ∷ []) ≡ keys_of rows ++ e ∷ [] = map-append (λ (row : Entry × ℕ). row.0) rows (row_of e k ∷ []) in
    let new : entry_at (p ++ q) k ≡ Some e = ap (entry_at (p ++ q)) (index ∙ ap (λ (n : ℕ). n + 1) is.taken_is) ∙ entry_new p e in
    let old = All-weaker (λ (row : Entry × ℕ). entry_at p row.1 ≡ Some row.0) (λ (row : Entry × ℕ). entry_at (p ++ q) row.1 ≡ Some row.0) (λ row h. entry_front p q row.1 row.0 h) rows is.indices in
    let indices = All-push (λ (row : Entry × ℕ). entry_at (p ++ q) row.1 ≡ Some row.0) rows (row_of e k) old new in
    let refer = All-push (Refers (p ++ q)) (keys_of rows) e (All-weaker (Refers p) (Refers (p ++ q)) (λ x h. refers_extends p (p ++ q) x (append_extends p q) h) (keys_of rows) is.refers) (refers_extends p (p ++ q) e (append_extends p q) refers) in
    record {
      taken_is = count ∙ ap (λ (n : ℕ). n + length q) is.taken_is ∙ sym (length-append p q) ∙ ap length (sym longer);
      small = small;
      indices = subst (λ (z : Pool). All (λ (row : Entry × ℕ). entry_at z row.1 ≡ Some row.0) (rows ++ row_of e k ∷ [])) (sym longer) indices;
      texts = subst (λ (z : List Entry). All HasText z) (sym keys) (All-push HasText (keys_of rows) e is.texts text);
      refers = subst (λ (z : List Entry). All (Refers (pool_of_rows (rows ++ row_of e k ∷ []))) z) (sym keys) (subst (λ (z : Pool). All (Refers z) (keys_of rows ++ e ∷ [])) (sym longer) refer);
    }

-- ---- an entry that is there

pub held_index : (rows : List (Entry × ℕ)) (taken : ℕ) (e : Entry) (k : ℕ) → IsEditor rows taken → Contains rows (e, k) → entry_at (pool_of_rows rows) k ≡ Some e
held_index rows taken e k is there = All-contains (λ (row : Entry × ℕ). entry_at (pool_of_rows rows) row.1 ≡ Some row.0) rows (row_of e k) is.indices there

-- an entry that an index names is a key
first_or_behind : (e x : Entry) (q : Pool) (i : ℕ) → slice_get (Some x ∷ q) i ≡ Some (Some e) → (x ≡ e) ⊎ ((j : ℕ) × (slice_get q j ≡ Some (Some e)))
first_or_behind e x q zero h = inl cc
first_or_behind e x q (suc i) h = inr (i, h)

past_second : (e : Entry) (q : Pool) (i : ℕ) → slice_get (None ∷ q) i ≡ Some (Some e) → (j : ℕ) × (slice_get q j ≡ Some (Some e))
past_second e q zero h = absurd cc
past_second e q (suc i) h = (i, h)

slot_among : (e x : Entry) (q : Pool) (i : ℕ) → slice_get (slots_of x ++ q) i ≡ Some (Some e) → (x ≡ e) ⊎ ((j : ℕ) × (slice_get q j ≡ Some (Some e)))
slot_among e x q i h =
    elim (slots_shape x) [
      | inl is ↦ first_or_behind e x q i (rw is at h)
      | inr is ↦ elim (first_or_behind e x (None ∷ q) i (rw is at h)) [
        | inl same ↦ inl same
        | inr more ↦ inr (past_second e q more.0 more.1)
      ]
    ]

held_key : (es : List Entry) (e : Entry) (i : ℕ) → slice_get (flat_map slots_of es) i ≡ Some (Some e) → Contains es e
held_key [] e i h = absurd cc
held_key (x ∷ es) e i h =
    elim (slot_among e x (flat_map slots_of es) i h) [
      | inl same ↦ (0, omega arith, same)
      | inr more ↦ let there = held_key es e more.0 more.1 in (suc there.0, omega (arith, there.1), there.2)
    ]

holds_key : (rows : List (Entry × ℕ)) (e : Entry) → Holds (pool_of_rows rows) e → Contains (keys_of rows) e
holds_key rows e h = by (eqb h.0 0) h.1
  where
    by : (b : Bool) → cond b None (slot_entry (slice_get (pool_of_rows rows) (h.0 - 1))) ≡ Some e → Contains (keys_of rows) e
    by true g = absurd cc
    by false g = held_key (keys_of rows) e (h.0 - 1) (slot_is (slice_get (pool_of_rows rows) (h.0 - 1)) e g)

-- ---- the test of the map

found_at : (es : List Entry) (e : Entry) (i : ℕ) → position (same e) es ≡ Some i → slice_get es i ≡ Some e
found_at es e i h =
    let p = position-Some (same e) es i e h in
    slice_get-get_or es i e p.0 ∙ ap (λ (x : Entry). Some x) (sym ((entries_decide e (get_or es i e)).0 p.1))

contains_at : {X : Type 0} (xs : List X) (i : ℕ) (x : X) → slice_get xs i ≡ Some x → Contains xs x
contains_at [] i x h = absurd cc
contains_at (y ∷ ys) zero x h = (0, omega arith, cc)
contains_at (y ∷ ys) (suc i) x h = let there = contains_at ys i x h in (suc there.0, omega (arith, there.1), there.2)

key_at : (rows : List (Entry × ℕ)) (i : ℕ) (key : Entry) (value : ℕ) → slice_get rows i ≡ Some (row_of key value) → slice_get (keys_of rows) i ≡ Some key
key_at [] i key value h = absurd cc
key_at (row ∷ rows) zero key value h = let is : row ≡ row_of key value = cc in ap (λ (r : Entry × ℕ). let o : Option Entry = Some r.0 in o) is
key_at (row ∷ rows) (suc i) key value h = key_at rows i key value h

pub found_row : (rows : List (Entry × ℕ)) (e key : Entry) (at value : ℕ) → position (same e) (keys_of rows) ≡ Some at → slice_get rows at ≡ Some (row_of key value) → Contains rows (row_of e value)
found_row rows e key at value is here =
    let one = key_at rows at key value here in
    let two = found_at (keys_of rows) e at is in
    let same_key : key ≡ e = cc in
    contains_at rows at (row_of e value) (here ∙ ap (λ (k : Entry). Some (row_of k value)) same_key)

place_within : (p : Entry → Bool) (xs : List Entry) (k : ℕ) (d : Entry) → k < length xs → p (get_or xs k d) ≡ true → position_or_len p xs < length xs
place_within p [] k d lt h = absurd (omega (arith, lt))
place_within p (x ∷ xs) k d lt h = by (p x) refl k lt h (λ j less passes. place_within p xs j d less passes)
  where
    by : (b : Bool) → p x ≡ b → (j : ℕ) → j < length (x ∷ xs) → p (get_or (x ∷ xs) j d) ≡ true → ((i : ℕ) → i < length xs → p (get_or xs i d) ≡ true → position_or_len p xs < length xs) → position_or_len p (x ∷ xs) < length (x ∷ xs)
    by true is j lt h rest = rw is (omega arith)
    by false is zero lt h rest = absurd (true≢false (sym h ∙ is))
    by false is (suc j) lt h rest = let more = rest j (omega (arith, lt)) h in rw is (omega (arith, more))

pub absent_key : (rows : List (Entry × ℕ)) (e : Entry) → position (same e) (keys_of rows) ≡ None → Contains (keys_of rows) e → ⊥
absent_key rows e none there =
    let xs = keys_of rows in
    let passes : same e (get_or xs there.0 e) ≡ true = (entries_decide e (get_or xs there.0 e)).1 (sym there.2) in
    let within : ltb (position_or_len (same e) xs) (length xs) ≡ true = lt-ltb _ _ (place_within (same e) xs there.0 e there.1 passes) in
    let some : position (same e) xs ≡ Some (position_or_len (same e) xs) = rw within refl in
    absurd cc

-- what is not there is put at the end
pub inserted : (rows : List (Entry × ℕ)) (e : Entry) (k : ℕ) → (Contains (keys_of rows) e → ⊥) → insert_entry same rows e k ≡ rows ++ row_of e k ∷ []
inserted [] e k absent = refl
inserted (row ∷ rows) e k absent = by (same e row.0) refl (inserted rows e k (λ there. absent (suc there.0, omega (arith, there.1), there.2)))
  where
    by : (b : Bool) → same e row.0 ≡ b → insert_entry same rows e k ≡ rows ++ row_of e k ∷ [] → cond b ((row.0, k) ∷ rows) (row ∷ insert_entry same rows e k) ≡ row ∷ (rows ++ row_of e k ∷ [])
    by true is rest = absurd (absent (0, omega arith, sym ((entries_decide e row.0).0 is)))
    by false is rest = ap (λ (z : List (Entry × ℕ)). row ∷ z) rest

-- the pool with a new last entry
pub grown : (rows new : List (Entry × ℕ)) (p : Pool) (e : Entry) (k : ℕ) → pool_of_rows rows ≡ p → (Contains (keys_of rows) e → ⊥) → new ≡ insert_entry same rows e k → pool_of_rows new ≡ p ++ slots_of e
grown rows new p e k view absent is =
    ap pool_of_rows (is ∙ inserted rows e k absent) ∙ rows_more rows e k ∙ ap (λ (z : Pool). z ++ slots_of e) view

-- an entry that is no key stands nowhere
pub not_held : (rows : List (Entry × ℕ)) (p : Pool) (e : Entry) → pool_of_rows rows ≡ p → (Contains (keys_of rows) e → ⊥) → Holds p e → ⊥
not_held rows p e view absent held = absent (holds_key rows e (subst (λ (z : Pool). Holds z e) (sym view) held))
