-- What each item of a list gives, along the list.
use Rattle.std.proofs.Common.{◌≡◌, ℕ, ◌+◌, ◌<◌, ◌≤◌, List, [], ◌∷◌, ◌++◌, length, get_or, drop, drop-cons, length-drop, add-one, append_assoc, Option, Some, None, Result, Ok, Err, refl, sym, ap, ◌∙◌, arith}
use Rattle.std.specs.Prelude.{option_and_then}
use Rattle.std.specs.Option.{option_map}
use Rattle.std.proofs.lemmas.List.{nil_from_length, append-nil}
use Rattle.class_input.specs.declared.bad_class.BadKind.{BadKind}
use Rattle.class_input.specs.declared.bad_class.BadClass.{BadClass}
use Rattle.class_input.specs.declared.bad_class.BadClass.TheVariants as errors
use Rattle.class_input.specs.declared.bad_class.BadKind.TheVariants.{Target}
use Rattle.class_input.specs.Reading.{Fault, Fails}
use Rattle.class_model.specs.declared.insn.Insn.{Insn}
use Rattle.class_names.specs.Steps.{fit}
use Rattle.insn_code.specs.CodeReading.{in_front, linked}
use Rattle.insn_code.specs.Linking.{Placed, all_of, link_placed}

abbrev pub good : {A : Type 0} → A → Result A Fault
good a = Ok a

pub fit_some : {A : Type 0} (place : ℕ) (kind : BadKind) (o : Option A) (a : A) → fit place kind o ≡ good a → o ≡ Some a
fit_some place kind None a h = absurd cc
fit_some place kind (Some b) a h = cc

-- what a loop has so far, in front of what the rest gives
abbrev pub behind : {B : Type 0} → List B → Option (List B) → Option (List B)
behind front None = None
behind front (Some ys) = Some (front ++ ys)

pub behind_nil : {B : Type 0} (o : Option (List B)) → behind [] o ≡ o
behind_nil None = refl
behind_nil (Some ys) = refl

behind_more : {B : Type 0} (front : List B) (y : B) (o : Option (List B)) → behind front (option_map (λ ys. y ∷ ys) o) ≡ behind (front ++ y ∷ []) o
behind_more front y None = refl
behind_more front y (Some ys) = ap (λ (z : List _). Some z) (sym (append_assoc front (y ∷ []) ys))

first_of_rest : {A B : Type 0} (f : A → Option B) (xs : List A) (i : ℕ) (d : A) → i < length xs → all_of f (drop i xs) ≡ all_of f (get_or xs i d ∷ drop (i + 1) xs)
first_of_rest f xs i d lt = ap (all_of f) (rw (add-one, drop-cons xs i d lt) refl)

pub goes_on : {A B : Type 0} (f : A → Option B) (xs : List A) (i : ℕ) (d : A) (place : ℕ) (kind : BadKind) (ys : List B) (y : B) (total : Option (List B)) → i < length xs → fit place kind (f (get_or xs i d)) ≡ good y
    → behind ys (all_of f (drop i xs)) ≡ total → behind (ys ++ y ∷ []) (all_of f (drop (i + 1) xs)) ≡ total
unfolding all_of
goes_on {A} {B} f xs i d place kind ys y total lt h so_far =
    let gives : f (get_or xs i d) ≡ Some y = fit_some place kind (f (get_or xs i d)) y h in
    let first : all_of f (drop i xs) ≡ option_map (λ zs. y ∷ zs) (all_of f (drop (i + 1) xs)) = first_of_rest f xs i d lt ∙ ap (option_and_then (λ z. option_map (λ zs. z ∷ zs) (all_of f (drop (i + 1) xs)))) gives in
    sym (behind_more ys y (all_of f (drop (i + 1) xs))) ∙ ap (behind ys) (sym first) ∙ so_far

abbrev bad : {A : Type 0} → Fault → Result A Fault
bad fault = Err fault

bad_is : {A B : Type 0} (x y : Fault) → bad {A = A} x ≡ bad {A = A} y → bad {A = B} x ≡ bad {A = B} y
bad_is {A} {B} x y h = let d : x ≡ y = cc in ap (λ (z : Fault). bad {A = B} z) d

fit_fails : {A B : Type 0} (place : ℕ) (kind : BadKind) (e : BadClass) (o : Option A) (total : Option B) → Fails e (fit place kind o) → (o ≡ None → total ≡ None) → Fails e (fit place kind total)
fit_fails place kind errors.Memory o total h none = tt
fit_fails {A} {B} place kind (errors.Bad at why) None total h none = ap (fit place kind) (none refl) ∙ bad_is {A = A} {B = B} (record { place = place; kind = kind }) (record { place = at; kind = why }) h
fit_fails place kind (errors.Bad at why) (Some a) total h none = absurd cc

pub ends : {A B : Type 0} (f : A → Option B) (xs : List A) (i : ℕ) (d : A) (place : ℕ) (kind : BadKind) (e : BadClass) (ys : List B) (total : Option (List B)) → i < length xs → Fails e (fit place kind (f (get_or xs i d)))
    → behind ys (all_of f (drop i xs)) ≡ total → Fails e (fit place kind total)
unfolding all_of
ends f xs i d place kind e ys total lt h so_far =
    fit_fails place kind e (f (get_or xs i d)) total h (λ none.
    let first : all_of f (drop i xs) ≡ None = first_of_rest f xs i d lt ∙ ap (option_and_then (λ z. option_map (λ zs. z ∷ zs) (all_of f (drop (i + 1) xs)))) none in
    sym so_far ∙ ap (behind ys) first)

pub is_done : {A B : Type 0} (f : A → Option B) (xs : List A) (i : ℕ) (place : ℕ) (kind : BadKind) (ys : List B) (total : Option (List B)) → length xs ≤ i → behind ys (all_of f (drop i xs)) ≡ total → fit place kind total ≡ good ys
unfolding all_of
is_done f xs i place kind ys total le so_far =
    let rest : drop i xs ≡ [] = nil_from_length (drop i xs) (omega (arith, length-drop i xs)) in
    let all : total ≡ Some ys = sym so_far ∙ ap (λ (z : List _). behind ys (all_of f z)) rest ∙ ap (λ (z : List _). Some z) (append-nil ys) in
    ap (fit place kind) all

-- ---- the instructions of code

pub front_nil : (r : Result (List Insn) Fault) → in_front [] r ≡ r
front_nil (Ok insns) = refl
front_nil (Err fault) = refl

front_more : (front : List Insn) (insn : Insn) (r : Result (List Insn) Fault) → in_front front (in_front (insn ∷ []) r) ≡ in_front (front ++ insn ∷ []) r
front_more front insn (Ok insns) = ap (λ (z : List Insn). good z) (sym (append_assoc front (insn ∷ []) insns))
front_more front insn (Err fault) = refl

pub link_goes_on : (place : ℕ) (starts : List ℕ) (x : Placed) (xs : List Placed) (front : List Insn) (insn : Insn) (total : Result (List Insn) Fault) → fit (place + x.0) Target (link_placed starts x) ≡ good insn
    → in_front front (linked place starts (x ∷ xs)) ≡ total → in_front (front ++ insn ∷ []) (linked place starts xs) ≡ total
unfolding linked
link_goes_on place starts x xs front insn total h so_far =
    let first : linked place starts (x ∷ xs) ≡ in_front (insn ∷ []) (linked place starts xs) = rw h refl in
    sym (front_more front insn (linked place starts xs)) ∙ ap (in_front front) (sym first) ∙ so_far

pub link_ends : (place : ℕ) (starts : List ℕ) (x : Placed) (xs : List Placed) (front : List Insn) (e : BadClass) (total : Result (List Insn) Fault) → Fails e (fit (place + x.0) Target (link_placed starts x))
    → in_front front (linked place starts (x ∷ xs)) ≡ total → Fails e total
unfolding linked
link_ends place starts x xs front errors.Memory total h so_far = tt
link_ends place starts x xs front (errors.Bad at why) total h so_far =
    let first : linked place starts (x ∷ xs) ≡ Err (record { place = at; kind = why }) = rw h refl in
    sym so_far ∙ ap (in_front front) first

pub link_is_done : (place : ℕ) (starts : List ℕ) (front : List Insn) (total : Result (List Insn) Fault) → in_front front (linked place starts []) ≡ total → total ≡ good front
unfolding linked
link_is_done place starts front total so_far = sym so_far ∙ ap (λ (z : List Insn). good z) (append-nil front)
