-- What frames name is judged exactly.
use Rattle.std.proofs.Common.{◌≡◌, ℕ, ◌≤◌, Bool, true, false, cond, ltb, List, [], ◌∷◌, Option, Some, None, Result, refl, sym, ap, subst, ◌∙◌}
use Rattle.std.specs.Prelude.{option_and_then, slice_get}
use Rattle.std.proofs.lemmas.Bool.{ltb-false, le-ltb}
use Rattle.class_input.specs.declared.bad_class.BadKind.TheVariants.{Target}
use Rattle.class_input.specs.Reading.{Fault, judging}
use Rattle.class_model.specs.declared.class.VType.{VType}
use Rattle.class_model.specs.declared.class.VType.TheVariants as types
use Rattle.class_model.specs.declared.class.Frame.{Frame}
use Rattle.class_model.specs.declared.insn.Insn.{Insn}
use Rattle.class_model.specs.declared.insn.Insn.TheVariants.{New}
use Rattle.const_pool.specs.Pool.{Pool}
use Rattle.class_names.specs.Names.{NamesType}
use Rattle.class_names.specs.Steps.{fit}
use Rattle.class_names.specs.NameReading.{class_type_at}
use Rattle.class_names.proofs.StepLaws.{Judges, After, fine, fine_judges, judges_same, then_judges, fit_judges}
use Rattle.class_names.proofs.NameLaws.{class_type_judges}
use Rattle.insn_code.specs.Offsets.{start_number}
use Rattle.insn_code.specs.Linking.{Code}
use Rattle.code_tables.specs.CodeTables.{Begins}
use Rattle.stack_maps.specs.declared.frame.RawType.{RawType}
use Rattle.stack_maps.specs.declared.frame.RawType.TheVariants as raw
use Rattle.stack_maps.specs.declared.frame.RawFrame.{RawFrame}
use Rattle.frame_tables.specs.FrameTable.{first_entry, IsNew, IsVType, Alike, IsFrame}
use Rattle.frame_tables.specs.FrameReading.{wrong_frame, frame_start, is_new, if_new, new_number, new_at, each_of, vtype, vtypes, frame}

-- ---- offsets

abbrev StartR : Code → ℕ → ℕ → Type 0
StartR code offset number = (offset ≤ 65535) × Begins code.1 offset number

small_or_not : (b : Bool) (place : ℕ) (r : Result ℕ Fault) (n : ℕ) → cond b (wrong_frame place) r ≡ fine n → (b ≡ false) × (r ≡ fine n)
small_or_not true place r n h = absurd cc
small_or_not false place r n h = (refl, h)

pub start_judges : (code : Code) (place offset : ℕ) → Judges (StartR code offset) (frame_start code place offset)
start_judges code place offset =
    let start = fit_judges place Target (start_number code.1.starts offset) in
    record {
      is = λ n h. let c = small_or_not (ltb 65535 offset) place (fit place Target (start_number code.1.starts offset)) n h in (ltb-false 65535 offset c.0, start.is n c.1);
      again = λ n h. rw (le-ltb 65535 offset h.0) (start.again n h.1);
    }

has_new : (insn : Option Insn) → is_new insn ≡ true → (class : List ℕ) × (insn ≡ Some (New class))
has_new None h = absurd cc
has_new (Some (New class)) h = (class, refl)
has_new (Some insn) h = absurd cc

chosen : (b : Bool) (m n : ℕ) → (let o : Option ℕ = cond b (Some m) None in o) ≡ Some n → (b ≡ true) × (m ≡ n)
chosen true m n h = (refl, cc)
chosen false m n h = absurd cc

new_is : (insns : List Insn) (o : Option ℕ) (n : ℕ) → option_and_then (if_new insns) o ≡ Some n → (o ≡ Some n) × IsNew insns n
new_is insns None n h = absurd cc
new_is insns (Some m) n h =
    let c = chosen (is_new (slice_get insns m)) m n h in
    (ap (λ (z : ℕ). let o : Option ℕ = Some z in o) c.1, subst (λ (z : ℕ). IsNew insns z) c.1 (has_new (slice_get insns m) c.0))

abbrev NewR : Code → ℕ → ℕ → Type 0
NewR code offset number = Begins code.1 offset number × IsNew code.0 number

pub new_judges : (code : Code) (place offset : ℕ) → Judges (NewR code offset) (new_at code place offset)
new_judges code place offset =
    judges_same (λ n. new_number code offset ≡ Some n) (NewR code offset) (new_at code place offset)
    (λ n h. new_is code.0 (start_number code.1.starts offset) n h)
    (λ n h. ap (option_and_then (if_new code.0)) h.0 ∙ (rw (h.1.1) refl))
    (fit_judges place Target (new_number code offset))

-- ---- lists

none_alike : {A B : Type 0} (R : A → B → Type 0) (ys : List B) → Alike R [] ys → [] ≡ ys
none_alike R [] h = refl
none_alike R (y ∷ ys) h = absurd h

some_alike : {A B : Type 0} (R : A → B → Type 0) (x : A) (xs : List A) (out : List B) → Alike R (x ∷ xs) out → After (R x) (λ y. After (Alike R xs) (λ ys out. y ∷ ys ≡ out)) out
some_alike R x xs [] h = absurd h
some_alike R x xs (y ∷ ys) h = (y, h.0, (ys, h.1, refl))

each_judges : {A B : Type 0} (R : A → B → Type 0) (f : A → Result B Fault) → ((x : A) → Judges (R x) (f x)) → (xs : List A) → Judges (Alike R xs) (each_of f xs)
unfolding each_of
each_judges {A} {B} R f j [] =
    judges_same (λ ys. (let none : List B = [] in none) ≡ ys) (Alike R []) (fine [])
    (λ ys h. subst (λ (z : List B). Alike R [] z) h tt)
    (λ ys h. none_alike R ys h)
    (fine_judges [])
each_judges {A} {B} R f j (x ∷ xs) =
    let Second : B → List B → Type 0 = λ y. After (Alike R xs) (λ ys out. y ∷ ys ≡ out) in
    judges_same (After (R x) Second) (Alike R (x ∷ xs)) (judging (f x) (λ y. judging (each_of f xs) (λ ys. fine (y ∷ ys))))
    (λ out h. subst (λ (z : List B). Alike R (x ∷ xs) z) h.2.2 (h.1, h.2.1))
    (λ out h. some_alike R x xs out h)
    (then_judges (R x) Second (f x) (λ y. judging (each_of f xs) (λ ys. fine (y ∷ ys))) (j x) (λ y.
    then_judges (Alike R xs) (λ ys out. y ∷ ys ≡ out) (each_of f xs) (λ ys. fine (y ∷ ys)) (each_judges R f j xs) (λ ys. fine_judges (y ∷ ys))))

-- ---- types and frames

abbrev ObjectR : Pool → ℕ → VType → Type 0
ObjectR p k = After (NamesType p k) (λ ty t. types.Ref ty ≡ t)

abbrev UninitR : Code → ℕ → VType → Type 0
UninitR code offset = After (NewR code offset) (λ number t. types.Uninit number ≡ t)

simple_judges : (t : VType) → Judges (λ u. u ≡ t) (fine t)
simple_judges t = judges_same (λ u. t ≡ u) (λ u. u ≡ t) (fine t) (λ u h. sym h) (λ u h. sym h) (fine_judges t)

pub vtype_judges : (p : Pool) (code : Code) (first : List VType) (place : ℕ) (t : RawType) → Judges (IsVType p code first t) (vtype p code first place t)
unfolding vtype
vtype_judges p code first place raw.Top = simple_judges types.Top
vtype_judges p code first place raw.Int = simple_judges types.Int
vtype_judges p code first place raw.Long = simple_judges types.Long
vtype_judges p code first place raw.Null = simple_judges types.Null
vtype_judges p code first place raw.UninitThis = simple_judges types.UninitThis
vtype_judges p code first place (raw.Object k) =
    judges_same (ObjectR p k) (IsVType p code first (raw.Object k)) (judging (class_type_at p place k) (λ ty. fine (types.Ref ty)))
    (λ t h. (h.0, h.1, sym h.2))
    (λ t h. (h.0, h.1, sym h.2))
    (then_judges (NamesType p k) (λ ty t. types.Ref ty ≡ t) (class_type_at p place k) (λ ty. fine (types.Ref ty)) (class_type_judges p place k) (λ ty. fine_judges (types.Ref ty)))
vtype_judges p code first place (raw.Uninit offset) =
    judges_same (UninitR code offset) (IsVType p code first (raw.Uninit offset)) (judging (new_at code place offset) (λ number. fine (types.Uninit number)))
    (λ t h. (h.0, h.1.0, h.1.1, sym h.2))
    (λ t h. (h.0, (h.1, h.2), sym h.3))
    (then_judges (NewR code offset) (λ number t. types.Uninit number ≡ t) (new_at code place offset) (λ number. fine (types.Uninit number)) (new_judges code place offset) (λ number. fine_judges (types.Uninit number)))
vtype_judges p code first place (raw.First k) = simple_judges (first_entry first k)

pub vtypes_judge : (p : Pool) (code : Code) (first : List VType) (place : ℕ) (ts : List RawType) → Judges (Alike (IsVType p code first) ts) (vtypes p code first place ts)
vtypes_judge p code first place ts = each_judges (IsVType p code first) (vtype p code first place) (vtype_judges p code first place) ts

-- a frame whose offset does not pass 65,535
abbrev pub SmallFrame : Pool → Code → List VType → RawFrame → ℕ × Frame → Type 0
SmallFrame p code first f frame = (f.offset ≤ 65535) × IsFrame p code first f frame

abbrev made : ℕ → List VType → List VType → ℕ × Frame
made number locals stack = (number, record { locals = locals; stack = stack })

abbrev StackR : Pool → Code → List VType → RawFrame → ℕ → List VType → ℕ × Frame → Type 0
StackR p code first f number locals = After (Alike (IsVType p code first) f.stack) (λ stack out. made number locals stack ≡ out)

abbrev LocalsR : Pool → Code → List VType → RawFrame → ℕ → ℕ × Frame → Type 0
LocalsR p code first f number = After (Alike (IsVType p code first) f.locals) (StackR p code first f number)

pub frame_judges : (p : Pool) (code : Code) (first : List VType) (place : ℕ) (f : RawFrame) → Judges (SmallFrame p code first f) (frame p code first place f)
unfolding frame
frame_judges p code first place f =
    judges_same (After (StartR code f.offset) (LocalsR p code first f)) (SmallFrame p code first f) _
    (λ out h.
    let l = h.2 in
    let s = l.2 in
    subst (λ (z : ℕ × Frame). SmallFrame p code first f z) s.2 (h.1.0, record { begins = h.1.1; locals_are = l.1; stack_is = s.1 }))
    (λ out h. let is = h.1 in (out.0, (h.0, is.begins), (out.1.locals, is.locals_are, (out.1.stack, is.stack_is, refl))))
    (then_judges (StartR code f.offset) (LocalsR p code first f) (frame_start code place f.offset) _ (start_judges code place f.offset) (λ number.
    then_judges (Alike (IsVType p code first) f.locals) (StackR p code first f number) (vtypes p code first place f.locals) _ (vtypes_judge p code first place f.locals) (λ locals.
    then_judges (Alike (IsVType p code first) f.stack) (λ stack out. made number locals stack ≡ out) (vtypes p code first place f.stack) _ (vtypes_judge p code first place f.stack) (λ stack.
    fine_judges (made number locals stack)))))

pub frames_judge : (p : Pool) (code : Code) (first : List VType) (place : ℕ) (fs : List RawFrame) → Judges (Alike (SmallFrame p code first) fs) (each_of (frame p code first place) fs)
frames_judge p code first place fs = each_judges (SmallFrame p code first) (frame p code first place) (frame_judges p code first place) fs
