-- A loop goes over things one after the other.
use Rattle.std.proofs.Common.{◌≡◌, ℕ, suc, ◌+◌, ◌-◌, ◌<◌, ◌≤◌, List, [], ◌∷◌, ◌++◌, Result, Ok, Err, refl, sym, ap, ◌∙◌, append_assoc, arith}
use Rattle.std.proofs.lemmas.List.{append-nil}
use Rattle.class_input.specs.Reading.{In}
use Rattle.stack_maps.specs.declared.frame_stop.FrameStop.{FrameStop}
use Rattle.stack_maps.specs.declared.frame_stop.FrameStop.TheVariants.{Memory}
use Rattle.stack_maps.specs.Reading.{Reading, bind, each, Fails}

-- what was gathered before, and then what is read
abbrev pub gathered : {A : Type 0} → List A → Result (List A × In) FrameStop → Result (List A × In) FrameStop
gathered xs (Ok r) = Ok (xs ++ r.0, r.1)
gathered xs (Err e) = Err e

abbrev pub answer : {A : Type 0} → A → In → Result (A × In) FrameStop
answer x i = Ok (x, i)

pub each_begins : {A : Type 0} (r : Result (List A × In) FrameStop) → gathered [] r ≡ r
each_begins (Ok r) = refl
each_begins (Err e) = refl

gathered_cons : {A : Type 0} (xs : List A) (x : A) (r : Result (List A × In) FrameStop) → gathered xs (bind r (λ ys i. answer (x ∷ ys) i)) ≡ gathered (xs ++ x ∷ []) r
gathered_cons xs x (Ok r) = ap (λ (z : List _). answer z r.1) (sym (append_assoc xs (x ∷ []) r.0))
gathered_cons xs x (Err e) = refl

pub each_goes_on : {S A : Type 0} (r : S → Reading A) (next : S → A → S) (count i : ℕ) (s : S) (xs : List A) (x : A) (from to : In) (total : Result (List A × In) FrameStop) → i < count → r s from ≡ answer x to
    → gathered xs (each r next (count - i) s from) ≡ total → gathered (xs ++ x ∷ []) (each r next (count - (i + 1)) (next s x) to) ≡ total
unfolding each
each_goes_on r next count i s xs x from to total lt h so_far =
    let k : count - i ≡ suc (count - (i + 1)) = omega arith in
    let one : gathered xs (each r next (count - i) s from) ≡ gathered (xs ++ x ∷ []) (each r next (count - (i + 1)) (next s x) to) =
    rw (k, h) (gathered_cons xs x (each r next (count - (i + 1)) (next s x) to)) in
    sym one ∙ so_far

pub each_ends : {S A : Type 0} (r : S → Reading A) (next : S → A → S) (e : FrameStop) (count i : ℕ) (s : S) (xs : List A) (from : In) (total : Result (List A × In) FrameStop) → i < count → Fails e (r s from)
    → gathered xs (each r next (count - i) s from) ≡ total → Fails e total
unfolding each
each_ends r next Memory count i s xs from total lt h so_far = tt
each_ends r next e count i s xs from total lt h so_far =
    let k : count - i ≡ suc (count - (i + 1)) = omega arith in
    let one : gathered xs (each r next (count - i) s from) ≡ Err e = rw (k, h) refl in
    sym so_far ∙ one

pub each_is_done : {S A : Type 0} (r : S → Reading A) (next : S → A → S) (count i : ℕ) (s : S) (xs : List A) (from : In) (total : Result (List A × In) FrameStop) → count ≤ i → gathered xs (each r next (count - i) s from) ≡ total → total ≡ answer xs from
unfolding each
each_is_done r next count i s xs from total le so_far =
    let k : count - i ≡ 0 = omega arith in
    let one : gathered xs (each r next (count - i) s from) ≡ answer xs from = rw k (ap (λ (z : List _). answer z from) (append-nil xs)) in
    sym so_far ∙ one
