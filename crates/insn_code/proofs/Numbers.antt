-- The table of the numbers of instructions grows with each instruction.
use Rattle.std.proofs.Common.{◌≡◌, inl, inr, ℕ, zero, suc, ◌+◌, ◌-◌, ◌<◌, ◌≤◌, Bool, true, false, cond, eqb, eq-eqb, ltb, List, [], ◌∷◌, ◌++◌, length, take, Option, Some, None, refl, sym, ap, subst, ◌∙◌, arith}
use Rattle.std.specs.Prelude.{not, slice_get, position}
use Rattle.std.specs.List.{position_or_len}
use Rattle.std.proofs.Math.ListN.{replicate}
use Rattle.std.proofs.lemmas.Bool.{cases_lt, lt-ltb, le-ltb}
use Rattle.std.proofs.lemmas.Grind.{common_steps}
use Rattle.std.proofs.lemmas.List.{length-append, length-replicate}
use Rattle.std.proofs.lemmas.List.Folds.{position_or_len_push}
use Rattle.std.proofs.lemmas.Option.{slice_get_past}
use Rattle.insn_code.specs.Offsets.{start_number, slot_number, HasNumbers}

pub none : HasNumbers [] []
none = record { each_is = λ offset. refl; few = omega arith; small = omega arith }

-- ---- the first place that passes, with one item more at the end

step_le : (b : Bool) (n m : ℕ) → n ≤ m → cond (not b) (1 + n) 0 ≤ suc m
step_le true n m le = omega arith
step_le false n m le = omega arith

position_le : (p : ℕ → Bool) (xs : List ℕ) → position_or_len p xs ≤ length xs
position_le p [] = omega arith
position_le p (x ∷ xs) = step_le (p x) (position_or_len p xs) (length xs) (position_le p xs)

abbrev found : ℕ → ℕ → Option ℕ
found n m = cond (ltb n m) (Some n) None

abbrev pushed : ℕ → ℕ → Bool → ℕ
pushed n m b = cond (eqb n m) (m + cond b 0 1) n

pushed_old : (n m : ℕ) (b : Bool) → n < m → found (pushed n m b) (suc m) ≡ found n m
pushed_old n m b lt =
    let apart : eqb n m ≡ false = grind (arith, common_steps) in
    let below : ltb n m ≡ true = lt-ltb n m lt in
    let below_too : ltb n (suc m) ≡ true = lt-ltb n (suc m) (omega arith) in
    rw (apart, below, below_too) refl

pushed_false : (m : ℕ) → found (pushed m m false) (suc m) ≡ found m m
pushed_false m =
    let same : eqb m m ≡ true = eq-eqb m m refl in
    let past : ltb m m ≡ false = le-ltb m m (omega arith) in
    let past_too : ltb (m + 1) (suc m) ≡ false = le-ltb (m + 1) (suc m) (omega arith) in
    rw (same, past, past_too) refl

pushed_true : (m : ℕ) → found (pushed m m true) (suc m) ≡ Some m
pushed_true m =
    let same : eqb m m ≡ true = eq-eqb m m refl in
    let zero_more : m + 0 ≡ m = omega arith in
    let below : ltb m (suc m) ≡ true = lt-ltb m (suc m) (omega arith) in
    rw (same, zero_more, below) refl

push_is : (p : ℕ → Bool) (xs : List ℕ) (y : ℕ) → position p (xs ++ y ∷ []) ≡ found (pushed (position_or_len p xs) (length xs) (p y)) (suc (length xs))
push_is p xs y =
    let long : length (xs ++ y ∷ []) ≡ suc (length xs) = omega (arith, length-append xs (y ∷ [])) in
    rw (position_or_len_push p xs y, long) refl

same_by : (n m : ℕ) (b : Bool) → n ≤ m → b ≡ false → found (pushed n m b) (suc m) ≡ found n m
same_by n m b le e =
    elim (cases_lt n m) [
      | inl lt ↦ pushed_old n m b lt
      | inr ge ↦ let same : n ≡ m = omega arith in rw (e, same) (pushed_false m)
    ]

absent : (n m : ℕ) → found n m ≡ None → m ≤ n
absent n m e =
    elim (cases_lt n m) [
      | inl lt ↦ absurd (let below : ltb n m ≡ true = lt-ltb n m lt in let some : found n m ≡ Some n = rw below refl in cc)
      | inr ge ↦ ge
    ]

new_by : (n m : ℕ) (b : Bool) → n ≤ m → found n m ≡ None → b ≡ true → found (pushed n m b) (suc m) ≡ Some m
new_by n m b le none e =
    let ge = absent n m none in
    let same : n ≡ m = omega arith in
    rw (e, same) (pushed_true m)

position_same : (p : ℕ → Bool) (xs : List ℕ) (y : ℕ) → p y ≡ false → position p (xs ++ y ∷ []) ≡ position p xs
position_same p xs y e = push_is p xs y ∙ same_by (position_or_len p xs) (length xs) (p y) (position_le p xs) e

position_new : (p : ℕ → Bool) (xs : List ℕ) (y : ℕ) → position p xs ≡ None → p y ≡ true → position p (xs ++ y ∷ []) ≡ Some (length xs)
position_new p xs y none e = push_is p xs y ∙ new_by (position_or_len p xs) (length xs) (p y) (position_le p xs) none e

-- ---- slots

abbrev slot : List (Option ℕ) → ℕ → Option ℕ
slot numbers offset = slot_number (slice_get numbers offset)

abbrev grown : List (Option ℕ) → ℕ → ℕ → List (Option ℕ)
grown numbers k more = (numbers ++ Some k ∷ []) ++ replicate more None

nones : (more offset : ℕ) → slot (replicate more None) offset ≡ None
nones zero offset = refl
nones (suc more) zero = refl
nones (suc more) (suc offset) = nones more offset

slot_below : (numbers : List (Option ℕ)) (k more offset : ℕ) → offset < length numbers → slot (grown numbers k more) offset ≡ slot numbers offset
slot_below [] k more offset lt = absurd (omega arith)
slot_below (x ∷ xs) k more zero lt = refl
slot_below (x ∷ xs) k more (suc offset) lt = slot_below xs k more offset (omega arith)

slot_here : (numbers : List (Option ℕ)) (k more offset : ℕ) → offset ≡ length numbers → slot (grown numbers k more) offset ≡ Some k
slot_here [] k more zero e = refl
slot_here [] k more (suc offset) e = absurd (omega arith)
slot_here (x ∷ xs) k more zero e = absurd (omega arith)
slot_here (x ∷ xs) k more (suc offset) e = slot_here xs k more offset (omega arith)

slot_above : (numbers : List (Option ℕ)) (k more offset : ℕ) → length numbers < offset → slot (grown numbers k more) offset ≡ None
slot_above [] k more zero lt = absurd (omega arith)
slot_above [] k more (suc offset) lt = nones more offset
slot_above (x ∷ xs) k more zero lt = absurd (omega arith)
slot_above (x ∷ xs) k more (suc offset) lt = slot_above xs k more offset (omega arith)

-- ---- one instruction more

past_none : (starts : List ℕ) (numbers : List (Option ℕ)) (offset : ℕ) → HasNumbers starts numbers → length numbers ≤ offset → start_number starts offset ≡ None
past_none starts numbers offset h le = sym (h.each_is offset) ∙ ap slot_number (slice_get_past numbers offset le)

each_number : (starts : List ℕ) (numbers : List (Option ℕ)) (more offset : ℕ) → HasNumbers starts numbers
    → slot (grown numbers (length starts) more) offset ≡ start_number (starts ++ length numbers ∷ []) offset
each_number starts numbers more offset h =
    elim (cases_lt offset (length numbers)) [
      | inl lt ↦
          let apart : eqb (length numbers) offset ≡ false = grind (arith, common_steps) in
          slot_below numbers (length starts) more offset lt ∙ h.each_is offset ∙ sym (position_same (λ start. eqb start offset) starts (length numbers) apart)
      | inr le ↦
          elim (cases_lt (length numbers) offset) [
            | inl lt ↦
                let apart : eqb (length numbers) offset ≡ false = grind (arith, common_steps) in
                slot_above numbers (length starts) more offset lt ∙ sym (past_none starts numbers offset h le) ∙ sym (position_same (λ start. eqb start offset) starts (length numbers) apart)
            | inr ge ↦
                let same : length numbers ≡ offset = omega arith in
                slot_here numbers (length starts) more offset (sym same) ∙ sym (position_new (λ start. eqb start offset) starts (length numbers) (past_none starts numbers offset h le) (eq-eqb (length numbers) offset same))
          ]
    ]

pub one_more : (starts : List ℕ) (numbers made : List (Option ℕ)) (size : ℕ) → HasNumbers starts numbers → 0 < size → length numbers + size ≤ 65535
    → made ≡ take (length numbers + size) (numbers ++ Some (length starts) ∷ []) ++ replicate (length numbers + size - (length numbers + 1)) None
    → HasNumbers (starts ++ length numbers ∷ []) made × (length made ≡ length numbers + size)
one_more starts numbers made size h some room e =
    let more = length numbers + size - (length numbers + 1) in
    let front : List (Option ℕ) = numbers ++ Some (length starts) ∷ [] in
    let front_long : length front ≡ length numbers + 1 = omega (arith, length-append numbers (Some (length starts) ∷ [])) in
    let kept : take (length numbers + size) front ≡ front = grind (arith, common_steps) in
    let is : made ≡ grown numbers (length starts) more = e ∙ ap (λ (z : List (Option ℕ)). z ++ replicate more None) kept in
    let long : length made ≡ length numbers + size = ap length is ∙ length-append front (replicate more None) ∙ omega (arith, length-replicate {A = Option ℕ} more None) in (
      record {
        each_is = λ offset. ap (λ (z : List (Option ℕ)). slot z offset) is ∙ each_number starts numbers more offset h;
        few = omega (arith, h.few, length-append starts (length numbers ∷ []));
        small = omega arith;
      },
      long,
    )

pub made_numbers : (starts new_starts : List ℕ) (numbers front made : List (Option ℕ)) (size at number : ℕ) → HasNumbers starts numbers → 0 < size → at + size ≤ 65535
    → at ≡ length numbers → number ≡ length starts → new_starts ≡ starts ++ at ∷ [] → front ≡ numbers ++ Some number ∷ [] → made ≡ take (at + size) front ++ replicate (at + size - length front) None
    → HasNumbers new_starts made
made_numbers starts new_starts numbers front made size at number h some room at_is number_is starts_are front_is made_is =
    let front_is' : front ≡ numbers ++ Some (length starts) ∷ [] = front_is ∙ ap (λ (k : ℕ). numbers ++ Some k ∷ []) number_is in
    let front_long : length front ≡ length numbers + 1 = ap length front_is' ∙ length-append numbers (Some (length starts) ∷ []) in
    let left : at + size - length front ≡ length numbers + size - (length numbers + 1) = omega arith in
    let whole : at + size ≡ length numbers + size = omega arith in
    let is : made ≡ take (length numbers + size) (numbers ++ Some (length starts) ∷ []) ++ replicate (length numbers + size - (length numbers + 1)) None =
    made_is ∙ ap (λ (k : ℕ). take k front ++ replicate (at + size - length front) None) whole ∙ ap (λ (z : List (Option ℕ)). take (length numbers + size) z ++ replicate (at + size - length front) None) front_is' ∙ ap (λ (k : ℕ). take (length numbers + size) (numbers ++ Some (length starts) ∷ []) ++ replicate k None) left in
    let one = one_more starts numbers made size h some (omega arith) is in
    subst (λ (z : List ℕ). HasNumbers z made) (ap (λ (k : ℕ). starts ++ k ∷ []) (sym at_is) ∙ sym starts_are) one.0
