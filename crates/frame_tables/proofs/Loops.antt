-- The loops of this crate go over lists, item by item.
use Rattle.std.proofs.Common.{◌≡◌, ℕ, suc, add-one, drop-cons, ◌+◌, ◌<◌, ◌≤◌, List, [], ◌∷◌, ◌++◌, length, get_or, drop, Result, Ok, Err, refl, sym, ap, ◌∙◌, append_assoc}
use Rattle.std.proofs.lemmas.List.{append-nil}
use Rattle.class_input.specs.declared.bad_class.BadClass.{BadClass}
use Rattle.class_input.specs.declared.bad_class.BadClass.TheVariants as errors
use Rattle.class_input.specs.Reading.{Fault, Fails, judging}
use Rattle.class_names.proofs.StepLaws.{fine}
use Rattle.const_pool.specs.Pool.{Pool}
use Rattle.insn_code.specs.Linking.{Code}
use Rattle.stack_maps.specs.declared.frame.RawType.{RawType}
use Rattle.stack_maps.specs.declared.frame.RawType.TheVariants.{First}
use Rattle.stack_maps.specs.declared.marks.FrameMark.{FrameMark}
use Rattle.stack_maps.proofs.MarkLoops.{past_end}
use Rattle.frame_tables.specs.FrameTable.{numbered}
use Rattle.frame_tables.specs.FrameReading.{mark_judged, marks_judged, each_of}

-- a list from a place on
item_at : {X : Type 0} (xs : List X) (i : ℕ) (x d : X) → i < length xs → x ≡ get_or xs i d → drop i xs ≡ x ∷ drop (i + 1) xs
item_at xs i x d lt is = rw (add-one, drop-cons xs i d lt) (ap (λ (y : _). y ∷ drop (suc i) xs) (sym is))

-- ---- the numbers of entries

pub numbers_go_on : {A : Type 0} (xs : List A) (i : ℕ) (x d : A) (types total : List RawType) → i < length xs → x ≡ get_or xs i d → types ++ numbered i (drop i xs) ≡ total → (types ++ First i ∷ []) ++ numbered (i + 1) (drop (i + 1) xs) ≡ total
numbers_go_on {A} xs i x d types total lt is so_far =
    let one : types ++ numbered i (drop i xs) ≡ types ++ (First i ∷ numbered (i + 1) (drop (i + 1) xs)) = ap (λ (z : List A). types ++ numbered i z) (item_at xs i x d lt is) in
    append_assoc types (First i ∷ []) (numbered (i + 1) (drop (i + 1) xs)) ∙ sym one ∙ so_far

pub numbers_are_done : {A : Type 0} (xs : List A) (i : ℕ) (types total : List RawType) → length xs ≤ i → types ++ numbered i (drop i xs) ≡ total → types ≡ total
numbers_are_done {A} xs i types total le so_far = sym (append-nil types) ∙ ap (λ (z : List A). types ++ numbered i z) (sym (past_end xs i le)) ∙ so_far

-- ---- marks

pub marks_go_on : (p : Pool) (code : Code) (start next after : ℕ) (ms : List FrameMark) (i : ℕ) (m d : FrameMark) (total : Result (Unit {0}) Fault) → i < length ms → m ≡ get_or ms i d → mark_judged p code (start + m.place) next m.mark ≡ fine after
    → marks_judged p code start next (drop i ms) ≡ total → marks_judged p code start after (drop (i + 1) ms) ≡ total
unfolding marks_judged
marks_go_on p code start next after ms i m d total lt is h so_far =
    let one : marks_judged p code start next (drop i ms) ≡ marks_judged p code start after (drop (i + 1) ms) = rw (item_at ms i m d lt is, h) refl in
    sym one ∙ so_far

pub marks_end : (p : Pool) (code : Code) (start next : ℕ) (ms : List FrameMark) (i : ℕ) (m d : FrameMark) (e : BadClass) (total : Result (Unit {0}) Fault) → i < length ms → m ≡ get_or ms i d → Fails e (mark_judged p code (start + m.place) next m.mark)
    → marks_judged p code start next (drop i ms) ≡ total → Fails e total
unfolding marks_judged
marks_end p code start next ms i m d errors.Memory total lt is h so_far = tt
marks_end p code start next ms i m d (errors.Bad place kind) total lt is h so_far =
    let one : marks_judged p code start next (drop i ms) ≡ Err (record { place = place; kind = kind }) = rw (item_at ms i m d lt is, h) refl in
    sym so_far ∙ one

pub marks_are_done : (p : Pool) (code : Code) (start next : ℕ) (ms : List FrameMark) (i : ℕ) (total : Result (Unit {0}) Fault) → length ms ≤ i → marks_judged p code start next (drop i ms) ≡ total → total ≡ fine tt
unfolding marks_judged
marks_are_done p code start next ms i total le so_far = sym so_far ∙ ap (marks_judged p code start next) (past_end ms i le)

-- ---- what each of a list gives

-- what a loop has so far, before what the rest gives
abbrev pub in_front : {B : Type 0} → List B → Result (List B) Fault → Result (List B) Fault
in_front ys (Ok zs) = Ok (ys ++ zs)
in_front ys (Err e) = Err e

pub front_nil : {B : Type 0} (r : Result (List B) Fault) → in_front [] r ≡ r
front_nil (Ok zs) = refl
front_nil (Err e) = refl

abbrev one_front : {B : Type 0} → B → Result (List B) Fault → Result (List B) Fault
one_front y (Ok zs) = Ok (y ∷ zs)
one_front y (Err e) = Err e

front_more : {B : Type 0} (ys : List B) (y : B) (r : Result (List B) Fault) → in_front ys (one_front y r) ≡ in_front (ys ++ y ∷ []) r
front_more ys y (Ok zs) = ap fine (sym (append_assoc ys (y ∷ []) zs))
front_more ys y (Err e) = refl

behind_one : {B : Type 0} (y : B) (r : Result (List B) Fault) → judging r (λ ys. fine (y ∷ ys)) ≡ one_front y r
behind_one y (Ok zs) = refl
behind_one y (Err e) = refl

each_one : {A B : Type 0} (f : A → Result B Fault) (x : A) (xs : List A) (y : B) → f x ≡ fine y → each_of f (x ∷ xs) ≡ one_front y (each_of f xs)
unfolding each_of
each_one f x xs y h = rw h (behind_one y (each_of f xs))

pub each_goes_on : {A B : Type 0} (f : A → Result B Fault) (xs : List A) (i : ℕ) (x d : A) (ys : List B) (y : B) (total : Result (List B) Fault) → i < length xs → x ≡ get_or xs i d → f x ≡ fine y
    → in_front ys (each_of f (drop i xs)) ≡ total → in_front (ys ++ y ∷ []) (each_of f (drop (i + 1) xs)) ≡ total
each_goes_on f xs i x d ys y total lt is h so_far =
    let rest = drop (i + 1) xs in
    let one : in_front ys (each_of f (drop i xs)) ≡ in_front (ys ++ y ∷ []) (each_of f rest) =
    ap (λ (z : List _). in_front ys (each_of f z)) (item_at xs i x d lt is) ∙ ap (in_front ys) (each_one f x rest y h) ∙ front_more ys y (each_of f rest) in
    sym one ∙ so_far

pub each_ends : {A B : Type 0} (f : A → Result B Fault) (xs : List A) (i : ℕ) (x d : A) (ys : List B) (e : BadClass) (total : Result (List B) Fault) → i < length xs → x ≡ get_or xs i d → Fails e (f x)
    → in_front ys (each_of f (drop i xs)) ≡ total → Fails e total
unfolding each_of
each_ends f xs i x d ys errors.Memory total lt is h so_far = tt
each_ends f xs i x d ys (errors.Bad place kind) total lt is h so_far =
    let one : in_front ys (each_of f (drop i xs)) ≡ Err (record { place = place; kind = kind }) = rw (item_at xs i x d lt is, h) refl in
    sym so_far ∙ one

pub each_is_done : {A B : Type 0} (f : A → Result B Fault) (xs : List A) (i : ℕ) (ys : List B) (total : Result (List B) Fault) → length xs ≤ i → in_front ys (each_of f (drop i xs)) ≡ total → total ≡ fine ys
unfolding each_of
each_is_done f xs i ys total le so_far =
    let one : in_front ys (each_of f (drop i xs)) ≡ fine (ys ++ []) = rw (past_end xs i le) refl in
    sym so_far ∙ one ∙ ap fine (append-nil ys)
