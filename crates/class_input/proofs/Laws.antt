-- A reading is exact for a relation where it takes from the front exactly a text that stands for what it answers.
use Rattle.std.proofs.Common.{◌≡◌, ℕ, zero, suc, ◌+◌, ◌^◌, ◌<◌, ◌≤◌, Bool, true, false, cond, ltb, List, [], ◌∷◌, ◌++◌, length, get_or, take, drop, Result, Ok, Err, refl, sym, ap, subst, ◌∙◌, append_assoc, add-zero, arith, inl, inr}
use Rattle.std.specs.Prelude.{MatchBool, ◌&&◌, ◌==◌, nat_le, ◌%◌, ◌/◌}
use Rattle.std.specs.Int.{Width, w8, w16, w32, w64, byte_len, from_be_bytes, to_be_bytes}
use Rattle.std.proofs.lemmas.Bool.{cases_lt, ltb-false, le-ltb, eqb-true, leb-true, le-leb}
use Rattle.std.proofs.lemmas.List.{take_at, drop_at, take-append-drop, length-append, length-take, get_or-drop, get_or-take, get_or_past, append-nil, nil_from_length}
use Rattle.std.proofs.lemmas.Nat.{be_bytes_2, be_bytes_4, be_bytes_8, from_be_bytes-to_be_bytes_2, from_be_bytes-to_be_bytes_4, from_be_bytes-to_be_bytes_8}
use Rattle.class_input.specs.declared.bad_class.BadKind.{BadKind}
use Rattle.class_input.specs.declared.bad_class.BadKind.TheVariants.{Short, AttrLength}
use Rattle.class_input.specs.Reading.{In, Fault, Reading, bind, ◌>>=◌, done, refused, here, lifted, bytes, number, each, one_more, many, closed, within}
use Rattle.class_input.specs.Grammar.{IsBytes, IsU8, IsU16, IsU32, IsU64, Each}

pub IsBytes-drop : (n : ℕ) (bytes : List ℕ) → IsBytes bytes → IsBytes (drop n bytes)
IsBytes-drop n bytes h i = rw get_or-drop (h (n + i))

pub IsBytes-take : (n : ℕ) (bytes : List ℕ) → IsBytes bytes → IsBytes (take n bytes)
IsBytes-take n bytes h i =
    elim (cases_lt i n) [
      | inl lt ↦ rw (get_or-take n bytes i 0 lt) (h i)
      | inr le ↦ rw (get_or_past (take n bytes) i 0 (omega (arith, length-take n bytes))) (omega arith)
    ]

pub IsBytes-after : (front rest : List ℕ) → IsBytes (front ++ rest) → IsBytes rest
IsBytes-after front rest h = subst (λ (b : List ℕ). IsBytes b) (drop_at front rest (length front) refl) (IsBytes-drop (length front) (front ++ rest) h)

abbrev pub answer : {A : Type 0} → A → In → Result (A × In) Fault
answer x i = Ok (x, i)

-- the value of a step that did not fail
pub bind_ok : {A B : Type 0} (r : Result (A × In) Fault) (f : A → Reading B) (y : B) (j : In) → bind r f ≡ answer y j → (x : A) × (m : In) × (r ≡ answer x m) × (f x m ≡ answer y j)
bind_ok (Ok x) f y j e = (x.0, x.1, refl, e)
bind_ok (Err d) f y j e = absurd cc

-- what a reading took
pub record Takes {A : Type 0} (R : List ℕ → A → Type 0) (i : In) (x : A) (j : In) : Type 0 where
  pub text : List ℕ
  pub stands : R text x
  pub parts : i.rest ≡ text ++ j.rest
  pub moved : j.at ≡ i.at + length text

abbrev pub from : ℕ → List ℕ → In
from at rest = record { at = at; rest = rest }

pub record Exact {A : Type 0} (R : List ℕ → A → Type 0) (r : Reading A) : Type 0 where
  pub takes : (i : In) (x : A) (j : In) → IsBytes i.rest → r i ≡ answer x j → Takes R i x j
  pub again : (at : ℕ) (text rest : List ℕ) (x : A) → R text x → r (from at (text ++ rest)) ≡ answer x (from (at + length text) rest)

-- another way to say the same relation
pub Exact-same : {A : Type 0} (R S : List ℕ → A → Type 0) (r : Reading A) → ((text : List ℕ) (x : A) → R text x → S text x) → ((text : List ℕ) (x : A) → S text x → R text x) → Exact R r → Exact S r
Exact-same R S r to back e = record {
  takes = λ i x j fits h. let t = e.takes i x j fits h in record { text = t.text; stands = to t.text x t.stands; parts = t.parts; moved = t.moved };
  again = λ at text rest x h. e.again at text rest x (back text x h);
}

pair_of : {A : Type 0} (x y : A × In) → (let k : Result (A × In) Fault = Ok x in k) ≡ Ok y → x ≡ y
pair_of x y e = cc

pub answer_is : {A : Type 0} (x y : A) (i j : In) → answer x i ≡ answer y j → (x ≡ y) × (i ≡ j)
answer_is {A} x y i j e =
    let p = pair_of (x, i) (y, j) e in
    (ap (λ (p : A × In). p.0) p, ap (λ (p : A × In). p.1) p)

-- ---- nothing is read

abbrev pub IsDone : {A : Type 0} → A → List ℕ → A → Type 0
IsDone x text y = (text ≡ []) × (x ≡ y)

pub done_exact : {A : Type 0} (x : A) → Exact (IsDone x) (done x)
done_exact {A} x = record {
  takes = λ i y j fits h. let e = answer_is x y i j h in record { text = []; stands = (refl, e.0); parts = ap (λ (k : In). k.rest) e.1; moved = ap (λ (k : In). k.at) (sym e.1) ∙ sym (add-zero i.at) };
  again = λ at text rest y h. rw (h.0, h.1) (ap (λ (k : ℕ). answer y (from k rest)) (sym (add-zero at)));
}

-- what is refused stands for nothing
pub refused_exact : {A : Type 0} (R : List ℕ → A → Type 0) (place : ℕ) (kind : BadKind) → ((text : List ℕ) (x : A) → R text x → ⊥) → Exact R (refused place kind)
refused_exact R place kind never = record {
  takes = λ i x j fits h. absurd cc;
  again = λ at text rest x h. absurd (never text x h);
}

-- ---- one after the other

abbrev pub Then : {A B : Type 0} → (List ℕ → A → Type 0) → (A → List ℕ → B → Type 0) → List ℕ → B → Type 0
Then {A} R S text y = (x : A) × (first second : List ℕ) × (text ≡ first ++ second) × R first x × S x second y

pub then_exact : {A B : Type 0} (R : List ℕ → A → Type 0) (S : A → List ℕ → B → Type 0) (r : Reading A) (f : A → Reading B)
    → Exact R r → ((x : A) → Exact (S x) (f x)) → Exact (Then R S) (r >>= f)
then_exact R S r f p q = record {
  takes = λ i y j fits h.
      let b = bind_ok (r i) f y j h in
      let t = p.takes i b.0 b.1 fits b.2 in
      let rest_fits : IsBytes b.1.rest = IsBytes-after t.text b.1.rest (subst (λ (bs : List ℕ). IsBytes bs) t.parts fits) in
      let u = (q b.0).takes b.1 y j rest_fits b.3 in
      record {
        text = t.text ++ u.text;
        stands = (b.0, t.text, u.text, refl, t.stands, u.stands);
        parts = t.parts ∙ ap (λ (bs : List ℕ). t.text ++ bs) u.parts ∙ sym (append_assoc t.text u.text j.rest);
        moved = omega (arith, t.moved, u.moved, length-append t.text u.text);
      };
  again = λ at text rest y h.
      let x = h.0 in
      let a = h.1 in
      let b = h.2 in
      let whole : text ++ rest ≡ a ++ (b ++ rest) = rw (h.3) (append_assoc a b rest) in
      let one = p.again at a (b ++ rest) x h.4 in
      let two = (q x).again (at + length a) b rest y h.5 in
      let long : at + length a + length b ≡ at + length text = rw (h.3) (omega (arith, length-append a b)) in
      ap (λ (bs : List ℕ). bind (r (from at bs)) f) whole ∙ ap (λ (z : Result (_ × In) Fault). bind z f) one ∙ two ∙ ap (λ (k : ℕ). answer y (from k rest)) long;
}

-- a function of what was read
pub mapped_exact : {A B : Type 0} (R : List ℕ → A → Type 0) (r : Reading A) (f : A → B) → Exact R r → Exact (λ text y. (x : A) × R text x × (f x ≡ y)) (r >>= λ x. done (f x))
mapped_exact {A} {B} R r f e =
    let S : List ℕ → B → Type 0 = λ text y. (x : A) × R text x × (f x ≡ y) in
    Exact-same (Then R (λ x. IsDone (f x))) S (r >>= λ x. done (f x))
    (λ text y h. (h.0, subst (λ (z : List ℕ). R z h.0) (sym (h.3 ∙ ap (λ (z : List ℕ). h.1 ++ z) h.5.0 ∙ append-nil h.1)) h.4, h.5.1))
    (λ text y h. (h.0, text, [], sym (append-nil text), h.1, (refl, h.2)))
    (then_exact R (λ x. IsDone (f x)) r (λ x. done (f x)) e (λ x. done_exact (f x)))

-- where a reading stands is no part of what it reads
pub here_exact : {B : Type 0} (S : List ℕ → B → Type 0) (f : ℕ → Reading B) → ((at : ℕ) → Exact S (f at)) → Exact S (here >>= f)
here_exact S f q = record {
  takes = λ i y j fits h. (q i.at).takes i y j fits h;
  again = λ at text rest y h. (q at).again at text rest y h;
}

-- ---- bytes and numbers

abbrev pub IsText : ℕ → List ℕ → List ℕ → Type 0
IsText n text x = (length text ≡ n) × (text ≡ x) × IsBytes text

chosen : {A : Type 0} (b : Bool) (d : Fault) (x y : A) (i j : In) → cond b (Err d) (answer x i) ≡ answer y j → (b ≡ false) × (x ≡ y) × (i ≡ j)
chosen true d x y i j e = absurd cc
chosen false d x y i j e = let p = answer_is x y i j e in (refl, p.0, p.1)

pub bytes_exact : (n : ℕ) → Exact (IsText n) (bytes n)
unfolding bytes
bytes_exact n = record {
  takes = λ i x j fits h.
      let c = chosen (ltb (length i.rest) n) (record { place = i.at; kind = Short }) (take n i.rest) x (from (i.at + n) (drop n i.rest)) j h in
      let long : n ≤ length i.rest = ltb-false _ _ c.0 in
      let len : length (take n i.rest) ≡ n = omega (arith, length-take n i.rest) in
      record {
        text = take n i.rest;
        stands = (len, c.1, IsBytes-take n i.rest fits);
        parts = sym (take-append-drop n i.rest) ∙ ap (λ (k : In). take n i.rest ++ k.rest) c.2;
        moved = ap (λ (k : In). k.at) (sym c.2) ∙ ap (λ (k : ℕ). i.at + k) (sym len);
      };
  again = λ at text rest x h.
      let short : ltb (length (text ++ rest)) n ≡ false = le-ltb _ _ (omega (arith, h.0, length-append text rest)) in
      rw (short, take_at text rest n h.0, drop_at text rest n h.0, h.0, h.1) refl;
}

IsBytes-cons : (b : ℕ) (bs : List ℕ) → b < 256 → IsBytes bs → IsBytes (b ∷ bs)
IsBytes-cons b bs h g zero = h
IsBytes-cons b bs h g (suc i) = g i

abbrev AllLow : List ℕ → Type 0
AllLow [] = Unit {0}
AllLow (b ∷ bs) = (b < 256) × AllLow bs

IsBytes-from : (bs : List ℕ) → AllLow bs → IsBytes bs
IsBytes-from [] h = λ i. omega arith
IsBytes-from (b ∷ bs) h = IsBytes-cons b bs h.0 (IsBytes-from bs h.1)

low : (n : ℕ) → n % 256 < 256
low n = omega arith

single : (bs : List ℕ) → length bs ≡ 1 → IsBytes bs → (get_or bs 0 0 % 256) ∷ [] ≡ bs
single [] len fits = absurd (omega (arith, len))
single (b ∷ []) len fits = ap (λ (k : ℕ). k ∷ []) (omega (arith, fits 0))
single (b ∷ c ∷ bs) len fits = absurd (omega (arith, len))

record IsWide (w : Width) (limit : ℕ) : Type 0 where
  len : (n : ℕ) → length (to_be_bytes w n) ≡ byte_len w
  back : (bytes : List ℕ) → length bytes ≡ byte_len w → IsBytes bytes → to_be_bytes w (from_be_bytes w bytes) ≡ bytes
  again : (n : ℕ) → n < limit → from_be_bytes w (to_be_bytes w n) ≡ n
  below : (bytes : List ℕ) → IsBytes bytes → from_be_bytes w bytes < limit
  fits : (n : ℕ) → IsBytes (to_be_bytes w n)

number_from : (w : Width) (limit : ℕ) → IsWide w limit → Exact (λ text n. (n < limit) × (text ≡ to_be_bytes w n)) (number w)
unfolding number
number_from w limit wide =
    let R : List ℕ → ℕ → Type 0 = λ text n. (t : List ℕ) × IsText (byte_len w) text t × (from_be_bytes w t ≡ n) in
    let S : List ℕ → ℕ → Type 0 = λ text n. (n < limit) × (text ≡ to_be_bytes w n) in
    Exact-same R S (number w)
    (λ text n h. (subst (λ (k : ℕ). k < limit) h.2 (wide.below h.0 (subst (λ (b : List ℕ). IsBytes b) h.1.1 h.1.2)), rw (← h.2, ← h.1.1) (sym (wide.back text h.1.0 h.1.2))))
    (λ text n h. (text, (ap length h.1 ∙ wide.len n, refl, subst (λ (b : List ℕ). IsBytes b) (sym h.1) (wide.fits n)), ap (from_be_bytes w) h.1 ∙ wide.again n h.0))
    (mapped_exact (IsText (byte_len w)) (bytes (byte_len w)) (from_be_bytes w) (bytes_exact (byte_len w)))

pub u8_exact : Exact IsU8 (number w8)
u8_exact = number_from w8 (2 ^ 8) (record {
  len = λ n. refl;
  back = λ bytes len fits. single bytes len fits;
  again = λ n lt. omega arith;
  below = λ bytes fits. omega (arith, fits 0);
  fits = λ n. IsBytes-from (to_be_bytes w8 n) (low n, tt);
})

pub u16_exact : Exact IsU16 (number w16)
u16_exact = number_from w16 (2 ^ 16) (record {
  len = λ n. refl;
  back = λ bytes len fits. be_bytes_2 bytes _ len fits refl;
  again = λ n lt. from_be_bytes-to_be_bytes_2 n lt;
  below = λ bytes fits. omega (arith, fits 0, fits 1);
  fits = λ n. IsBytes-from (to_be_bytes w16 n) (low (n / 256), (low n, tt));
})

pub u32_exact : Exact IsU32 (number w32)
u32_exact = number_from w32 (2 ^ 32) (record {
  len = λ n. refl;
  back = λ bytes len fits. be_bytes_4 bytes _ len fits refl;
  again = λ n lt. from_be_bytes-to_be_bytes_4 n lt;
  below = λ bytes fits. omega (arith, fits 0, fits 1, fits 2, fits 3);
  fits = λ n. IsBytes-from (to_be_bytes w32 n) (low (n / 16777216), (low (n / 65536), (low (n / 256), (low n, tt))));
})

pub u64_exact : Exact IsU64 (number w64)
u64_exact = number_from w64 (2 ^ 64) (record {
  len = λ n. refl;
  back = λ bytes len fits. be_bytes_8 bytes _ len fits refl;
  again = λ n lt. from_be_bytes-to_be_bytes_8 n lt;
  below = λ bytes fits. omega (arith, fits 0, fits 1, fits 2, fits 3, fits 4, fits 5, fits 6, fits 7);
  fits = λ n. IsBytes-from (to_be_bytes w64 n) (low (n / 72057594037927936), (low (n / 281474976710656), (low (n / 1099511627776), (low (n / 4294967296), (low (n / 16777216), (low (n / 65536), (low (n / 256), (low n, tt))))))));
})

-- ---- many

abbrev pub Walk : {S : Type 0} → (S → List ℕ → S → Type 0) → ℕ → S → List ℕ → S → Type 0
Walk R zero s = IsDone s
Walk R (suc n) s = Then (R s) (Walk R n)

pub each_exact : {S : Type 0} (R : S → List ℕ → S → Type 0) (step : S → Reading S) → ((s : S) → Exact (R s) (step s)) → (n : ℕ) (s : S) → Exact (Walk R n s) (each n step s)
unfolding each
each_exact R step e zero s = done_exact s
each_exact R step e (suc n) s = then_exact (R s) (Walk R n) (step s) (each n step) (e s) (each_exact R step e n)

abbrev More : {A : Type 0} → (List ℕ → A → Type 0) → List A → List ℕ → List A → Type 0
More {A} R xs text ys = (x : A) × R text x × (xs ++ x ∷ [] ≡ ys)

each_from_walk : {A : Type 0} (R : List ℕ → A → Type 0) (n : ℕ) (front : List A) (text : List ℕ) (ys : List A) → Walk (More R) n front text ys → (xs : List A) × (front ++ xs ≡ ys) × (length xs ≡ n) × Each R text xs
each_from_walk R zero front text ys h = ([], append-nil front ∙ h.1, refl, h.0)
each_from_walk {A} R (suc n) front text ys h =
    let x = h.4.0 in
    let rest = each_from_walk R n h.0 h.2 ys h.5 in
    (x ∷ rest.0, sym (append_assoc front (x ∷ []) rest.0) ∙ ap (λ (z : List A). z ++ rest.0) h.4.2 ∙ rest.1, ap suc rest.2, (h.1, h.2, h.3, h.4.1, rest.3))

walk_from_each : {A : Type 0} (R : List ℕ → A → Type 0) (n : ℕ) (front : List A) (text : List ℕ) (xs ys : List A) → front ++ xs ≡ ys → length xs ≡ n → Each R text xs → Walk (More R) n front text ys
walk_from_each R zero front text [] ys e len h = (h, sym (append-nil front) ∙ e)
walk_from_each R zero front text (x ∷ xs) ys e len h = absurd (omega (arith, len))
walk_from_each {A} R (suc n) front text [] ys e len h = absurd (omega (arith, len))
walk_from_each {A} R (suc n) front text (x ∷ xs) ys e len h =
    (front ++ x ∷ [], h.0, h.1, h.2, (x, h.3, refl), walk_from_each R n (front ++ x ∷ []) h.1 xs ys (append_assoc front (x ∷ []) xs ∙ e) (omega (arith, len)) h.4)

pub many_exact : {A : Type 0} (R : List ℕ → A → Type 0) (n : ℕ) (r : Reading A) → Exact R r → Exact (λ text xs. (length xs ≡ n) × Each R text xs) (many n r)
many_exact {A} R n r e =
    Exact-same (Walk (More R) n []) (λ text xs. (length xs ≡ n) × Each R text xs) (many n r)
    (λ text xs h. let w = each_from_walk R n [] text xs h in subst (λ (z : List A). (length z ≡ n) × Each R text z) w.1 (w.2, w.3))
    (λ text xs h. walk_from_each R n [] text xs xs refl h.0 h.1)
    (each_exact (More R) (one_more r) (λ xs. mapped_exact R r (λ x. xs ++ x ∷ []) e) n [])

-- ---- parts

picked : {A : Type 0} (b : Bool) (d : Fault) (x y : A) (i j : In) → cond b (answer x i) (Err d) ≡ answer y j → (b ≡ true) × (x ≡ y) × (i ≡ j)
picked true d x y i j e = let p = answer_is x y i j e in (refl, p.0, p.1)
picked false d x y i j e = absurd cc

both_true : (a b : Bool) → a && b ≡ true → (a ≡ true) × (b ≡ true)
both_true true b e = (refl, e)
both_true false b e = absurd cc

closed_is : {A : Type 0} (n : ℕ) (i : In) (x y : A) (k j : In) → closed n i x k ≡ answer y j → (k.rest ≡ []) × (n ≤ length i.rest) × (x ≡ y) × (from (i.at + n) (drop n i.rest) ≡ j)
closed_is {A} n i x y k j h =
    let c = picked ((length k.rest == 0) && nat_le n (length i.rest)) (record { place = k.at; kind = AttrLength }) x y (from (i.at + n) (drop n i.rest)) j h in
    let b = both_true (length k.rest == 0) (nat_le n (length i.rest)) c.0 in
    (nil_from_length k.rest (eqb-true _ _ b.0), leb-true _ _ b.1, c.1, c.2)

pub within_exact : {A : Type 0} (R : List ℕ → A → Type 0) (n : ℕ) (r : Reading A) → Exact R r → Exact (λ text x. (length text ≡ n) × R text x) (within n r)
unfolding within
within_exact {A} R n r e = record {
  takes = λ i x j fits h.
      let b = bind_ok (r (from i.at (take n i.rest))) (closed n i) x j h in
      let c = closed_is n i b.0 x b.1 j b.3 in
      let t = e.takes (from i.at (take n i.rest)) b.0 b.1 (IsBytes-take n i.rest fits) b.2 in
      let whole : take n i.rest ≡ t.text = t.parts ∙ ap (λ (z : List ℕ). t.text ++ z) c.0 ∙ append-nil t.text in
      let len : length t.text ≡ n = ap length (sym whole) ∙ omega (arith, length-take n i.rest, c.1) in
      record {
        text = t.text;
        stands = (len, subst (λ (z : A). R t.text z) c.2 t.stands);
        parts = sym (take-append-drop n i.rest) ∙ ap (λ (z : List ℕ). z ++ drop n i.rest) whole ∙ ap (λ (k : In). t.text ++ k.rest) c.3;
        moved = ap (λ (k : In). k.at) (sym c.3) ∙ ap (λ (k : ℕ). i.at + k) (sym len);
      };
  again = λ at text rest x h.
      let front : take n (text ++ rest) ≡ text ++ [] = take_at text rest n h.0 ∙ sym (append-nil text) in
      let one = ap (λ (z : List ℕ). bind (r (from at z)) (closed n (from at (text ++ rest)))) front ∙ ap (λ (z : Result (A × In) Fault). bind z (closed n (from at (text ++ rest)))) (e.again at text [] x h.1) in
      let long : nat_le n (length (text ++ rest)) ≡ true = le-leb _ _ (omega (arith, h.0, length-append text rest)) in
      one ∙ rw (long, drop_at text rest n h.0, h.0) refl;
}

-- ---- choices, and judgements with no reading

pub if_exact : {A : Type 0} (b : Bool) (R S : List ℕ → A → Type 0) (x y : Reading A) → Exact R x → Exact S y → Exact (λ text a. MatchBool b (R text a) (S text a)) (cond b x y)
if_exact true R S x y p q = p
if_exact false R S x y p q = q

abbrev pub IsAnswer : {A : Type 0} → Result A Fault → List ℕ → A → Type 0
IsAnswer c text x = (text ≡ []) × (c ≡ Ok x)

lifted_takes : {A : Type 0} (c : Result A Fault) (i : In) (x : A) (j : In) → lifted c i ≡ answer x j → (c ≡ Ok x) × (i ≡ j)
lifted_takes (Ok y) i x j h = let e = answer_is y x i j h in (ap (λ (z : _). Ok z) e.0, e.1)
lifted_takes (Err d) i x j h = absurd cc

pub lifted_exact : {A : Type 0} (c : Result A Fault) → Exact (IsAnswer c) (lifted c)
lifted_exact {A} c = record {
  takes = λ i x j fits h. let e = lifted_takes c i x j h in record { text = []; stands = (refl, e.0); parts = ap (λ (k : In). k.rest) e.1; moved = ap (λ (k : In). k.at) (sym e.1) ∙ sym (add-zero i.at) };
  again = λ at text rest x h. rw (h.0, h.1) (ap (λ (k : ℕ). answer x (from k rest)) (sym (add-zero at)));
}

-- ---- readings whose answers hold more than the text says, as places: view is what the text says

pub record ExactBy {A B : Type 0} (view : A → B) (R : List ℕ → B → Type 0) (r : Reading A) : Type 0 where
  pub takes : (i : In) (x : A) (j : In) → IsBytes i.rest → r i ≡ answer x j → Takes R i (view x) j
  pub again : (at : ℕ) (text rest : List ℕ) (y : B) → R text y → (x : A) × (r (from at (text ++ rest)) ≡ answer x (from (at + length text) rest)) × (view x ≡ y)

pub by_exact : {A B : Type 0} (view : A → B) (R : List ℕ → A → Type 0) (S : List ℕ → B → Type 0) (r : Reading A) → ((text : List ℕ) (x : A) → R text x → S text (view x)) → ((text : List ℕ) (y : B) → S text y → (x : A) × R text x × (view x ≡ y)) → Exact R r → ExactBy view S r
by_exact view R S r to back e = record {
  takes = λ i x j fits h. let t = e.takes i x j fits h in record { text = t.text; stands = to t.text x t.stands; parts = t.parts; moved = t.moved };
  again = λ at text rest y h. let b = back text y h in (b.0, e.again at text rest b.0 b.1, b.2);
}

pub by_same : {A B : Type 0} (view : A → B) (R S : List ℕ → B → Type 0) (r : Reading A) → ((text : List ℕ) (x : B) → R text x → S text x) → ((text : List ℕ) (x : B) → S text x → R text x) → ExactBy view R r → ExactBy view S r
by_same view R S r to back e = record {
  takes = λ i x j fits h. let t = e.takes i x j fits h in record { text = t.text; stands = to t.text (view x) t.stands; parts = t.parts; moved = t.moved };
  again = λ at text rest y h. e.again at text rest y (back text y h);
}

pub by_here : {A B : Type 0} (view : A → B) (S : List ℕ → B → Type 0) (f : ℕ → Reading A) → ((at : ℕ) → ExactBy view S (f at)) → ExactBy view S (here >>= f)
by_here view S f q = record {
  takes = λ i y j fits h. (q i.at).takes i y j fits h;
  again = λ at text rest y h. (q at).again at text rest y h;
}

pub by_if : {A B : Type 0} (view : A → B) (b : Bool) (R S : List ℕ → B → Type 0) (x y : Reading A) → ExactBy view R x → ExactBy view S y → ExactBy view (λ text a. MatchBool b (R text a) (S text a)) (cond b x y)
by_if view true R S x y p q = p
by_if view false R S x y p q = q

-- what is read by a view goes on to a reading that depends on the view alone
pub by_then : {A B C D : Type 0} (view : A → B) (view' : C → D) (R : List ℕ → B → Type 0) (S : B → List ℕ → D → Type 0) (r : Reading A) (f : A → Reading C)
    → ExactBy view R r → ((x : A) → ExactBy view' (S (view x)) (f x)) → ExactBy view' (Then R S) (r >>= f)
by_then {A} {B} {C} {D} view view' R S r f p q = record {
  takes = λ i y j fits h.
      let b = bind_ok (r i) f y j h in
      let t = p.takes i b.0 b.1 fits b.2 in
      let rest_fits : IsBytes b.1.rest = IsBytes-after t.text b.1.rest (subst (λ (bs : List ℕ). IsBytes bs) t.parts fits) in
      let u = (q b.0).takes b.1 y j rest_fits b.3 in
      record {
        text = t.text ++ u.text;
        stands = (view b.0, t.text, u.text, refl, t.stands, u.stands);
        parts = t.parts ∙ ap (λ (bs : List ℕ). t.text ++ bs) u.parts ∙ sym (append_assoc t.text u.text j.rest);
        moved = omega (arith, t.moved, u.moved, length-append t.text u.text);
      };
  again = λ at text rest y h.
      let a = h.1 in
      let b = h.2 in
      let whole : text ++ rest ≡ a ++ (b ++ rest) = rw (h.3) (append_assoc a b rest) in
      let one = p.again at a (b ++ rest) h.0 h.4 in
      let stands : S (view one.0) b y = subst (λ (z : B). S z b y) (sym one.2) h.5 in
      let two = (q one.0).again (at + length a) b rest y stands in
      let long : at + length a + length b ≡ at + length text = rw (h.3) (omega (arith, length-append a b)) in
      (two.0, ap (λ (bs : List ℕ). bind (r (from at bs)) f) whole ∙ ap (λ (z : Result (A × In) Fault). bind z f) one.1 ∙ two.1 ∙ ap (λ (k : ℕ). answer two.0 (from k rest)) long, two.2);
}

-- a reading by a view, the identity
pub exact_by : {A : Type 0} (R : List ℕ → A → Type 0) (r : Reading A) → ExactBy (λ x. x) R r → Exact R r
exact_by R r e = record {
  takes = λ i x j fits h. let t = e.takes i x j fits h in record { text = t.text; stands = t.stands; parts = t.parts; moved = t.moved };
  again = λ at text rest y h. let a = e.again at text rest y h in a.1 ∙ ap (λ (x : _). answer x (from (at + length text) rest)) a.2;
}

pub by_exact_same : {A : Type 0} (R : List ℕ → A → Type 0) (r : Reading A) → Exact R r → ExactBy (λ x. x) R r
by_exact_same R r e = by_exact (λ x. x) R R r (λ text x h. h) (λ text x h. (x, h, refl)) e

pub each_by : {A B : Type 0} (view : A → B) (R : B → List ℕ → B → Type 0) (step : A → Reading A) → ((s : A) → ExactBy view (R (view s)) (step s)) → (n : ℕ) (s : A) → ExactBy view (Walk R n (view s)) (each n step s)
unfolding each
each_by view R step e zero s = by_exact view (IsDone s) (IsDone (view s)) (done s) (λ text x h. (h.0, ap view h.1)) (λ text y h. (s, (h.0, refl), h.1)) (done_exact s)
each_by view R step e (suc n) s = by_then view view (R (view s)) (Walk R n) (step s) (each n step) (e s) (each_by view R step e n)
