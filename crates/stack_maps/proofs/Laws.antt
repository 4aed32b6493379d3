-- A reading is exact for a relation where it takes from the front exactly a text that stands, at its place, for what it
-- answers.
use Rattle.std.proofs.Common.{◌≡◌, ℕ, zero, suc, ◌+◌, Bool, true, false, cond, List, [], ◌∷◌, ◌++◌, length, Result, Ok, Err, refl, sym, ap, subst, ◌∙◌, append_assoc, add-zero, arith}
use Rattle.std.specs.Prelude.{MatchBool}
use Rattle.std.specs.Int.{Width, w8, w16}
use Rattle.std.proofs.lemmas.List.{length-append, append-nil}
use Rattle.class_input.specs.Grammar.{IsBytes, IsU8, IsU16}
use Rattle.class_input.specs.Reading as input
use Rattle.class_input.specs.Reading.{In, Fault}
use Rattle.class_input.proofs.Laws as laws
use Rattle.class_input.proofs.Laws.{IsBytes-after, from}
use Rattle.stack_maps.specs.declared.frame_stop.FrameStop.{FrameStop}
use Rattle.stack_maps.specs.Reading.{Reading, bind, ◌>>=◌, done, refused, here, shortly, number, each}
use Rattle.stack_maps.proofs.Loops.{answer}

-- the value of a step that did not fail
bind_ok : {A B : Type 0} (r : Result (A × In) FrameStop) (f : A → Reading B) (y : B) (j : In) → bind r f ≡ answer y j → (x : A) × (m : In) × (r ≡ answer x m) × (f x m ≡ answer y j)
bind_ok (Ok x) f y j e = (x.0, x.1, refl, e)
bind_ok (Err d) f y j e = absurd cc

-- what a reading took
pub record Takes {A : Type 0} (R : ℕ → List ℕ → A → Type 0) (i : In) (x : A) (j : In) : Type 0 where
  pub text : List ℕ
  pub stands : R i.at text x
  pub parts : i.rest ≡ text ++ j.rest
  pub moved : j.at ≡ i.at + length text

pub record Exact {A : Type 0} (R : ℕ → List ℕ → A → Type 0) (r : Reading A) : Type 0 where
  pub takes : (i : In) (x : A) (j : In) → IsBytes i.rest → r i ≡ answer x j → Takes R i x j
  pub again : (at : ℕ) (text rest : List ℕ) (x : A) → R at text x → r (from at (text ++ rest)) ≡ answer x (from (at + length text) rest)

-- another way to say the same relation
pub Exact-same : {A : Type 0} (R S : ℕ → List ℕ → A → Type 0) (r : Reading A) → ((at : ℕ) (text : List ℕ) (x : A) → R at text x → S at text x) → ((at : ℕ) (text : List ℕ) (x : A) → S at text x → R at text x) → Exact R r → Exact S r
Exact-same R S r to back e = record {
  takes = λ i x j fits h. let t = e.takes i x j fits h in record { text = t.text; stands = to i.at t.text x t.stands; parts = t.parts; moved = t.moved };
  again = λ at text rest x h. e.again at text rest x (back at text x h);
}

pair_of : {A : Type 0} (x y : A × In) → (let k : Result (A × In) FrameStop = Ok x in k) ≡ Ok y → x ≡ y
pair_of x y e = cc

answer_is : {A : Type 0} (x y : A) (i j : In) → answer x i ≡ answer y j → (x ≡ y) × (i ≡ j)
answer_is {A} x y i j e =
    let p = pair_of (x, i) (y, j) e in
    (ap (λ (p : A × In). p.0) p, ap (λ (p : A × In). p.1) p)

-- ---- nothing is read

abbrev pub IsDone : {A : Type 0} → A → ℕ → List ℕ → A → Type 0
IsDone x at text y = (text ≡ []) × (x ≡ y)

pub done_exact : {A : Type 0} (x : A) → Exact (IsDone x) (done x)
done_exact {A} x = record {
  takes = λ i y j fits h. let e = answer_is x y i j h in record { text = []; stands = (refl, e.0); parts = ap (λ (k : In). k.rest) e.1; moved = ap (λ (k : In). k.at) (sym e.1) ∙ sym (add-zero i.at) };
  again = λ at text rest y h. rw (h.0, h.1) (ap (λ (k : ℕ). answer y (from k rest)) (sym (add-zero at)));
}

-- what is refused stands for nothing
pub refused_exact : {A : Type 0} (R : ℕ → List ℕ → A → Type 0) (stop : FrameStop) → ((at : ℕ) (text : List ℕ) (x : A) → R at text x → ⊥) → Exact R (refused stop)
refused_exact R stop never = record {
  takes = λ i x j fits h. absurd cc;
  again = λ at text rest x h. absurd (never at text x h);
}

-- ---- one after the other

abbrev pub Then : {A B : Type 0} → (ℕ → List ℕ → A → Type 0) → (A → ℕ → List ℕ → B → Type 0) → ℕ → List ℕ → B → Type 0
Then {A} R S at text y = (x : A) × (first second : List ℕ) × (text ≡ first ++ second) × R at first x × S x (at + length first) second y

pub then_exact : {A B : Type 0} (R : ℕ → List ℕ → A → Type 0) (S : A → ℕ → List ℕ → B → Type 0) (r : Reading A) (f : A → Reading B)
    → Exact R r → ((x : A) → Exact (S x) (f x)) → Exact (Then R S) (r >>= f)
then_exact {A} {B} R S r f p q = record {
  takes = λ i y j fits h.
      let b = bind_ok (r i) f y j h in
      let t = p.takes i b.0 b.1 fits b.2 in
      let rest_fits : IsBytes b.1.rest = IsBytes-after t.text b.1.rest (subst (λ (bs : List ℕ). IsBytes bs) t.parts fits) in
      let u = (q b.0).takes b.1 y j rest_fits b.3 in
      record {
        text = t.text ++ u.text;
        stands = (b.0, t.text, u.text, refl, t.stands, subst (λ (k : ℕ). S b.0 k u.text y) t.moved u.stands);
        parts = t.parts ∙ ap (λ (bs : List ℕ). t.text ++ bs) u.parts ∙ sym (append_assoc t.text u.text j.rest);
        moved = omega (arith, t.moved, u.moved, length-append t.text u.text);
      };
  again = λ at text rest y h.
      let x = h.0 in
      let a = h.1 in
      let b = h.2 in
      let whole : text ++ rest ≡ a ++ (b ++ rest) = rw (h.3) (append_assoc a b rest) in
      let one = p.again at a (b ++ rest) x h.4 in
      let two = (q x).again (at + length a) b rest y h.5 in
      let long : at + length a + length b ≡ at + length text = rw (h.3) (omega (arith, length-append a b)) in
      ap (λ (bs : List ℕ). bind (r (from at bs)) f) whole ∙ ap (λ (z : Result (A × In) FrameStop). bind z f) one ∙ two ∙ ap (λ (k : ℕ). answer y (from k rest)) long;
}

-- a function of what was read
pub mapped_exact : {A B : Type 0} (R : ℕ → List ℕ → A → Type 0) (r : Reading A) (f : A → B) → Exact R r → Exact (λ at text y. (x : A) × R at text x × (f x ≡ y)) (r >>= λ x. done (f x))
mapped_exact {A} {B} R r f e =
    let S : ℕ → List ℕ → B → Type 0 = λ at text y. (x : A) × R at text x × (f x ≡ y) in
    Exact-same (Then R (λ x. IsDone (f x))) S (r >>= λ x. done (f x))
    (λ at text y h. (h.0, subst (λ (z : List ℕ). R at z h.0) (sym (h.3 ∙ ap (λ (z : List ℕ). h.1 ++ z) h.5.0 ∙ append-nil h.1)) h.4, h.5.1))
    (λ at text y h. (h.0, text, [], sym (append-nil text), h.1, (refl, h.2)))
    (then_exact R (λ x. IsDone (f x)) r (λ x. done (f x)) e (λ x. done_exact (f x)))

-- what stands at the place where reading stands
abbrev pub Here : {B : Type 0} → (ℕ → ℕ → List ℕ → B → Type 0) → ℕ → List ℕ → B → Type 0
Here S at text y = S at at text y

pub here_exact : {B : Type 0} (S : ℕ → ℕ → List ℕ → B → Type 0) (f : ℕ → Reading B) → ((at : ℕ) → Exact (S at) (f at)) → Exact (Here S) (here >>= f)
here_exact S f q = record {
  takes = λ i y j fits h. let t = (q i.at).takes i y j fits h in record { text = t.text; stands = t.stands; parts = t.parts; moved = t.moved };
  again = λ at text rest y h. (q at).again at text rest y h;
}

pub if_exact : {A : Type 0} (b : Bool) (R S : ℕ → List ℕ → A → Type 0) (x y : Reading A) → Exact R x → Exact S y → Exact (λ at text a. MatchBool b (R at text a) (S at text a)) (cond b x y)
if_exact true R S x y p q = p
if_exact false R S x y p q = q

-- ---- numbers

-- a relation that does not ask where its text begins
abbrev pub Anywhere : {A : Type 0} → (List ℕ → A → Type 0) → ℕ → List ℕ → A → Type 0
Anywhere R at text x = R text x

shortly_ok : (r : Result (ℕ × In) Fault) (n : ℕ) (j : In) → shortly r ≡ answer n j → r ≡ laws.answer n j
shortly_ok (Ok x) n j e = let p = pair_of x (n, j) e in ap (λ (z : ℕ × In). laws.answer z.0 z.1) p
shortly_ok (Err d) n j e = absurd cc

number_exact : (w : Width) (R : List ℕ → ℕ → Type 0) → laws.Exact R (input.number w) → Exact (Anywhere R) (number w)
unfolding number
number_exact w R e = record {
  takes = λ i n j fits h. let t = e.takes i n j fits (shortly_ok (input.number w i) n j h) in record { text = t.text; stands = t.stands; parts = t.parts; moved = t.moved };
  again = λ at text rest n h. ap shortly (e.again at text rest n h);
}

pub u8_exact : Exact (Anywhere IsU8) (number w8)
u8_exact = number_exact w8 IsU8 laws.u8_exact

pub u16_exact : Exact (Anywhere IsU16) (number w16)
u16_exact = number_exact w16 IsU16 laws.u16_exact

-- ---- things one after the other

abbrev pub Chain : {S A : Type 0} → (S → ℕ → List ℕ → A → Type 0) → (S → A → S) → S → ℕ → List ℕ → List A → Type 0
Chain R next s at text [] = text ≡ []
Chain R next s at text (x ∷ xs) = (first others : List ℕ) × (text ≡ first ++ others) × R s at first x × Chain R next (next s x) (at + length first) others xs

abbrev ChainOf : {S A : Type 0} → (S → ℕ → List ℕ → A → Type 0) → (S → A → S) → ℕ → S → ℕ → List ℕ → List A → Type 0
ChainOf R next n s at text xs = (length xs ≡ n) × Chain R next s at text xs

abbrev ChainThen : {S A : Type 0} → (S → ℕ → List ℕ → A → Type 0) → (S → A → S) → ℕ → S → A → ℕ → List ℕ → List A → Type 0
ChainThen {S} {A} R next n s x at text ys = (xs : List A) × ChainOf R next n (next s x) at text xs × (x ∷ xs ≡ ys)

chain_to : {S A : Type 0} (R : S → ℕ → List ℕ → A → Type 0) (next : S → A → S) (n : ℕ) (s : S) (at : ℕ) (text : List ℕ) (ys : List A) → Then (R s) (ChainThen R next n s) at text ys → ChainOf R next (suc n) s at text ys
chain_to {S} {A} R next n s at text ys h =
    let x = h.0 in
    let c = h.5 in
    subst (λ (z : List A). ChainOf R next (suc n) s at text z) c.2 (ap suc c.1.0, (h.1, h.2, h.3, h.4, c.1.1))

chain_from : {S A : Type 0} (R : S → ℕ → List ℕ → A → Type 0) (next : S → A → S) (n : ℕ) (s : S) (at : ℕ) (text : List ℕ) (ys : List A) → ChainOf R next (suc n) s at text ys → Then (R s) (ChainThen R next n s) at text ys
chain_from R next n s at text [] h = absurd (let e = h.0 in omega arith)
chain_from R next n s at text (x ∷ xs) h = let c = h.1 in (x, c.0, c.1, c.2, c.3, (xs, (let e = h.0 in omega arith, c.4), refl))

no_more : {A : Type 0} (xs : List A) → length xs ≡ 0 → [] ≡ xs
no_more [] e = refl
no_more (x ∷ xs) e = absurd (omega arith)

pub each_exact : {S A : Type 0} (R : S → ℕ → List ℕ → A → Type 0) (r : S → Reading A) (next : S → A → S) → ((s : S) → Exact (R s) (r s)) → (n : ℕ) (s : S) → Exact (ChainOf R next n s) (each r next n s)
unfolding each
each_exact {S} {A} R r next e zero s =
    Exact-same (IsDone []) (ChainOf R next zero s) (done [])
    (λ at text xs h. subst (λ (z : List A). ChainOf R next zero s at text z) h.1 (refl, h.0))
    (λ at text xs h. let none = no_more xs h.0 in (subst (λ (z : List A). Chain R next s at text z) (sym none) h.1, none))
    (done_exact [])
each_exact R r next e (suc n) s =
    Exact-same (Then (R s) (ChainThen R next n s)) (ChainOf R next (suc n) s) (r s >>= λ x. each r next n (next s x) >>= λ xs. done (x ∷ xs))
    (chain_to R next n s)
    (chain_from R next n s)
    (then_exact (R s) (ChainThen R next n s) (r s) (λ x. each r next n (next s x) >>= λ xs. done (x ∷ xs)) (e s) (λ x.
    mapped_exact (ChainOf R next n (next s x)) (each r next n (next s x)) (λ xs. x ∷ xs) (each_exact R r next e n (next s x))))
