-- Marks of the numbers of a list.
use Rattle.std.proofs.Common.{◌≡◌, ◌≢◌, ℕ, zero, suc, ◌≤◌, ◌⊎◌, inl, inr, List, [], ◌∷◌, ◌++◌, length, replicate, reverse, Some, refl, ap, sym, ◌∙◌, arith}
use Rattle.std.specs.Prelude.{Bool, true, false, ◌==◌, slice_get, slice_set, if◌then◌else◌}
use Rattle.std.proofs.lemmas.Bool.Decides.{eqb_tells}
use Rattle.std.proofs.lemmas.List.{reverse-append}
use Rattle.std.proofs.lemmas.Option.{slice_get_within}
use Rattle.linked_code.specs.Kept.{is_among}
use Rattle.machine.specs.Marked.{AreMarked}

none_false : (n k : ℕ) (b : Bool) → slice_get (replicate n false) k ≡ Some b → b ≡ false
none_false zero k b e = cc
none_false (suc n) zero b e = cc
none_false (suc n) (suc k) b e = none_false n k b e

pub marks_none : (list : List ℕ) (n : ℕ) → list ≡ [] → AreMarked list (replicate n false)
marks_none list n e = record { each = λ k b h. none_false n k b h ∙ ap (λ l. is_among l k) (sym e) }

chosen : {A : Type 0} (b : Bool) (x y : A) → b ≡ false → (if b then x else y) ≡ y
chosen b x y e = ap (λ c. if c then x else y) e

taken : {A : Type 0} (b : Bool) (x y : A) → b ≡ true → (if b then x else y) ≡ x
taken b x y e = ap (λ c. if c then x else y) e

-- a number of the list's head, or of its rest
by_test : (c k : ℕ) (l : List ℕ) (b : Bool) → ((c == k) ≡ true) × (c ≡ k) ⊎ ((c == k) ≡ false) × (c ≢ k) → (c ≡ k → b ≡ true) → (c ≢ k → b ≡ is_among l k) → b ≡ is_among (c ∷ l) k
by_test c k l b (inl h) here other = here h.1 ∙ sym (taken (c == k) true (is_among l k) h.0)
by_test c k l b (inr h) here other = other h.1 ∙ sym (chosen (c == k) true (is_among l k) h.0)

set_here : (marks : List Bool) (c : ℕ) (b : Bool) → slice_get (slice_set marks c true) c ≡ Some b → b ≡ true
set_here [] c b e = cc
set_here (m ∷ marks) zero b e = cc
set_here (m ∷ marks) (suc c) b e = set_here marks c b e

set_there : (marks : List Bool) (c k : ℕ) (b : Bool) → c ≢ k → slice_get (slice_set marks c true) k ≡ Some b → slice_get marks k ≡ Some b
set_there [] c k b differs e = e
set_there (m ∷ marks) zero zero b differs e = absurd (differs refl)
set_there (m ∷ marks) zero (suc k) b differs e = e
set_there (m ∷ marks) (suc c) zero b differs e = e
set_there (m ∷ marks) (suc c) (suc k) b differs e = set_there marks c k b (λ same. differs (ap suc same)) e

pub mark_set : (l list : List ℕ) (marks new : List Bool) (c : ℕ) → AreMarked l marks → list ≡ c ∷ l → new ≡ slice_set marks c true → AreMarked list new
mark_set l list marks new c are is now = record {
  each = λ k b h.
      let here : slice_get (slice_set marks c true) k ≡ Some b = ap (λ (q : List Bool). slice_get q k) (sym now) ∙ h in
      by_test c k l b (eqb_tells c k)
      (λ same. set_here marks c b (ap (λ q. slice_get (slice_set marks c true) q) same ∙ here))
      (λ differs. are.each k b (set_there marks c k b differs here))
      ∙ ap (λ q. is_among q k) (sym is);
}

pub mark_past : (l list : List ℕ) (marks : List Bool) (c : ℕ) → AreMarked l marks → list ≡ c ∷ l → length marks ≤ c → AreMarked list marks
mark_past l list marks c are is past = record {
  each = λ k b h.
      let within = slice_get_within marks k b h in
      by_test c k l b (eqb_tells c k)
      (λ same. absurd (omega arith))
      (λ differs. are.each k b h)
      ∙ ap (λ q. is_among q k) (sym is);
}

head_test : (a b c d : Bool) → d ≡ (if b then true else c) → (if a then true else d) ≡ (if (if a then true else b) then true else c)
head_test true b c d e = refl
head_test false b c d e = e

joined : (xs ys : List ℕ) (k : ℕ) → is_among (xs ++ ys) k ≡ (if is_among xs k then true else is_among ys k)
joined [] ys k = refl
joined (x ∷ xs) ys k = head_test (x == k) (is_among xs k) (is_among ys k) (is_among (xs ++ ys) k) (joined xs ys k)

swapped : (a b : Bool) → (if a then true else b) ≡ (if b then true else a)
swapped true true = refl
swapped true false = refl
swapped false true = refl
swapped false false = refl

last_test : (a b : Bool) → (if (if a then true else false) then true else b) ≡ (if a then true else b)
last_test true b = refl
last_test false b = refl

-- the order of a list is nothing to this
pub among_reversed : (xs : List ℕ) (k : ℕ) → is_among (reverse xs) k ≡ is_among xs k
among_reversed [] k = refl
among_reversed (x ∷ xs) k =
    ap (λ q. is_among q k) (reverse-append (x ∷ []) xs)
    ∙ joined (reverse xs) (x ∷ []) k
    ∙ swapped (is_among (reverse xs) k) (is_among (x ∷ []) k)
    ∙ last_test (x == k) (is_among (reverse xs) k)
    ∙ ap (λ (b : Bool). if x == k then true else b) (among_reversed xs k)
