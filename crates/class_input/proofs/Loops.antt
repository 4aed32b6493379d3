-- A loop goes over steps one after the other.
use Rattle.std.proofs.Common.{◌≡◌, ℕ, suc, ◌+◌, ◌-◌, ◌<◌, ◌≤◌, List, [], ◌∷◌, ◌++◌, length-drop, length, get_or, drop, drop-cons, add-one, Result, Ok, Err, refl, sym, ap, ◌∙◌, arith}
use Rattle.std.proofs.lemmas.List.{nil_from_length}
use Rattle.class_input.specs.declared.bad_class.BadClass.{BadClass}
use Rattle.class_input.specs.declared.bad_class.BadClass.TheVariants as errors
use Rattle.class_input.specs.Reading.{In, Fault, Reading, each, one_more, checked, Fails}
use Rattle.class_input.proofs.Laws.{answer}

abbrev pub judged_well : Unit {0} → Result (Unit {0}) Fault
judged_well u = Ok u

at_place : {X : Type 0} (xs : List X) (i : ℕ) (x : X) → i < length xs → x ≡ get_or xs i x → drop i xs ≡ x ∷ drop (i + 1) xs
at_place xs i x lt is = rw (add-one, drop-cons xs i x lt) (ap (λ (y : _). y ∷ drop (suc i) xs) (sym is))

pub each_goes_on : {S : Type 0} (step : S → Reading S) (count i : ℕ) (s t : S) (from to : In) (total : Result (S × In) Fault) → i < count → step s from ≡ answer t to
    → each (count - i) step s from ≡ total → each (count - (i + 1)) step t to ≡ total
unfolding each
each_goes_on step count i s t from to total lt h so_far =
    let k : count - i ≡ suc (count - (i + 1)) = omega arith in
    let one : each (count - i) step s from ≡ each (count - (i + 1)) step t to = rw (k, h) refl in
    sym one ∙ so_far

pub each_ends : {S : Type 0} (step : S → Reading S) (e : BadClass) (count i : ℕ) (s : S) (from : In) (total : Result (S × In) Fault) → i < count → Fails e (step s from)
    → each (count - i) step s from ≡ total → Fails e total
unfolding each
each_ends step errors.Memory count i s from total lt h so_far = tt
each_ends step (errors.Bad place kind) count i s from total lt h so_far =
    let k : count - i ≡ suc (count - (i + 1)) = omega arith in
    let one : each (count - i) step s from ≡ Err (record { place = place; kind = kind }) = rw (k, h) refl in
    sym so_far ∙ one

pub each_is_done : {S : Type 0} (step : S → Reading S) (count i : ℕ) (s : S) (from : In) (total : Result (S × In) Fault) → count ≤ i → each (count - i) step s from ≡ total → total ≡ answer s from
unfolding each
each_is_done step count i s from total le so_far =
    let k : count - i ≡ 0 = omega arith in
    let one : each (count - i) step s from ≡ answer s from = rw k refl in
    sym so_far ∙ one

-- ---- a loop over a list, each item of which is judged

pub checked_goes_on : {X : Type 0} (judge : X → Result (Unit {0}) Fault) (xs : List X) (i : ℕ) (x : X) (u : Unit {0}) (total : Result (Unit {0}) Fault) → i < length xs → x ≡ get_or xs i x → judge x ≡ judged_well u
    → checked judge (drop i xs) ≡ total → checked judge (drop (i + 1) xs) ≡ total
unfolding checked
checked_goes_on judge xs i x u total lt is h so_far =
    let parts : drop i xs ≡ x ∷ drop (i + 1) xs = at_place xs i x lt is in
    let one : checked judge (drop i xs) ≡ checked judge (drop (i + 1) xs) = rw (parts, h) refl in
    sym one ∙ so_far

pub checked_ends : {X : Type 0} (judge : X → Result (Unit {0}) Fault) (e : BadClass) (xs : List X) (i : ℕ) (x : X) (total : Result (Unit {0}) Fault) → i < length xs → x ≡ get_or xs i x → Fails e (judge x)
    → checked judge (drop i xs) ≡ total → Fails e total
unfolding checked
checked_ends judge errors.Memory xs i x total lt is h so_far = tt
checked_ends judge (errors.Bad place kind) xs i x total lt is h so_far =
    let parts : drop i xs ≡ x ∷ drop (i + 1) xs = at_place xs i x lt is in
    let one : checked judge (drop i xs) ≡ Err (record { place = place; kind = kind }) = rw (parts, h) refl in
    sym so_far ∙ one

pub checked_is_done : {X : Type 0} (judge : X → Result (Unit {0}) Fault) (xs : List X) (i : ℕ) (total : Result (Unit {0}) Fault) → length xs ≤ i → checked judge (drop i xs) ≡ total → total ≡ judged_well tt
unfolding checked
checked_is_done judge xs i total le so_far =
    let none : drop i xs ≡ [] = nil_from_length (drop i xs) (omega (arith, length-drop i xs)) in
    let one : checked judge (drop i xs) ≡ judged_well tt = rw none refl in
    sym so_far ∙ one

-- ---- a loop that puts each thing at the end of a list

pub many_goes_on : {A : Type 0} (r : Reading A) (count i : ℕ) (xs : List A) (x : A) (from to : In) (total : Result (List A × In) Fault) → i < count → r from ≡ answer x to
    → each (count - i) (one_more r) xs from ≡ total → each (count - (i + 1)) (one_more r) (xs ++ x ∷ []) to ≡ total
many_goes_on r count i xs x from to total lt h so_far =
    let step : one_more r xs from ≡ answer (xs ++ x ∷ []) to = rw h refl in
    each_goes_on (one_more r) count i xs (xs ++ x ∷ []) from to total lt step so_far

one_more_fails : {A : Type 0} (r : Reading A) (e : BadClass) (xs : List A) (from : In) → Fails e (r from) → Fails e (one_more r xs from)
one_more_fails r errors.Memory xs from h = tt
one_more_fails r (errors.Bad place kind) xs from h = rw h refl

pub many_ends : {A : Type 0} (r : Reading A) (e : BadClass) (count i : ℕ) (xs : List A) (from : In) (total : Result (List A × In) Fault) → i < count → Fails e (r from)
    → each (count - i) (one_more r) xs from ≡ total → Fails e total
many_ends r e count i xs from total lt h so_far = each_ends (one_more r) e count i xs from total lt (one_more_fails r e xs from h) so_far
