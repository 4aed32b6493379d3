-- Written code types: each tag's slot holds an int behind the prologue, and each piece goes from its frame to the next.
use Rattle.std.proofs.Common.{◌≡◌, ◌≢◌, ℕ, ℤ, zero, suc, ◌+◌, ◌-◌, ◌*◌, ◌<◌, ◌≤◌, pos, Bool, true, false, List, [], ◌∷◌, ◌++◌, length, Some, None, refl, sym, ap, ◌∙◌, subst, ⊎_elim, arith, append_assoc}
use Rattle.std.specs.Prelude.{slice_get, slice_set, replicate, if◌then◌else◌}
use Rattle.std.proofs.lemmas.Bool.{cases_eq}
use Rattle.std.proofs.lemmas.Option.{same_Some, slice_get_within}
use Rattle.class_model.specs.declared.class.VType.TheVariants as types
use Rattle.class_model.specs.declared.class.VType.{VType}
use Rattle.class_model.specs.declared.types.MethodRef.{MethodRef}
use Rattle.class_model.specs.declared.class.CodeDef.{CodeDef}
use Rattle.class_model.specs.declared.insn.Kind.TheVariants as kind
use Rattle.class_model.specs.declared.insn.Width.TheVariants as width
use Rattle.class_model.specs.declared.insn.StackOp.TheVariants as stack
use Rattle.class_model.specs.declared.insn.InvokeKind.TheVariants as invoke
use Rattle.class_model.specs.declared.insn.BinOp.{BinOp}
use Rattle.class_model.specs.declared.insn.BinOp.TheVariants as operation
use Rattle.class_model.specs.declared.insn.Insn.{Insn}
use Rattle.class_model.specs.declared.insn.Insn.TheVariants.{PushInt, Load, Store, Stack, Bin, Return, Invoke}
use Rattle.first_form.specs.declared.frame.IntFrame.{IntFrame}
use Rattle.profile_check.specs.declared.profile.Names.TheVariants.{Source, Written}
use Rattle.first_form.specs.declared.natives.Native.{Native}
use Rattle.first_form.specs.declared.natives.Native.TheVariants.{Read, Write, Report}
use Rattle.first_form.specs.Natives as form
use Rattle.first_form.specs.Typing.{Types, Runs, Calls, first_frame, words_type, IsFirstOp}
use Rattle.first_form.specs.FormOne.{IsStraight}
use Rattle.instrument_set.specs.declared.marks.Marks.{Marks}
use Rattle.instrument_set.specs.Pieces.{report_ref, local_tag, word_tag, load, store, piece_of, pieces, after}
use Rattle.instrument_set.specs.Written.{cleared, written_code}
use Rattle.instrument_set.proofs.SlotLaws.{get_set_same, get_set_other, get_set_cases, length_set}
use Rattle.instrument_set.proofs.Straight.{insn_depth, first_sized}

abbrev IsInt : List VType → ℕ → Type 0
IsInt ls i = slice_get ls i ≡ Some types.Int

int_set : (ls : List VType) (k : ℕ) → k < length ls → IsInt (slice_set ls k types.Int) k
int_set ls k l = get_set_same ls k types.Int l

-- an int more among locals takes none away
int_kept : (ls : List VType) (k i : ℕ) → IsInt ls i → IsInt (slice_set ls k types.Int) i
int_kept ls k i h =
    ⊎_elim
    (λ same. subst (λ (j : ℕ). IsInt (slice_set ls j types.Int) i) same (get_set_same ls i types.Int (slice_get_within ls i types.Int h)))
    (λ other. get_set_other ls k i types.Int (λ e. other e) ∙ h)
    (cases_eq i k)

-- the frame of the written code, where that of the code is f
pub record Widened (locals words : ℕ) (f g : IntFrame) : Type 0 where
  pub sized : length f.locals ≡ locals
  pub low : f.depth ≤ words
  pub room : 2 * locals + words ≤ length g.locals
  pub depth : g.depth ≡ f.depth
  pub ints : (i : ℕ) → IsInt f.locals i → IsInt g.locals i
  pub tags : (j : ℕ) → locals ≤ j → j < 2 * locals + words → IsInt g.locals j

runs_append : (most : ℕ) (a b : List Insn) (f g h : IntFrame) → Runs Written most a f g → Runs Written most b g h → Runs Written most (a ++ b) f h
runs_append most [] b f g h r s = subst (λ (k : IntFrame). Runs Written most b k h) r s
runs_append most (x ∷ xs) b f g h r s = (r.0, r.1, runs_append most xs b r.0 g h r.2 s)

abbrev with_int : IntFrame → ℕ → IntFrame
with_int g k = record g { locals = slice_set g.locals k types.Int }

abbrev at_depth : IntFrame → ℕ → IntFrame
at_depth g d = record g { depth = d }

-- a piece leads from the written frame to the next one
abbrev Leads : (locals words : ℕ) → List Insn → IntFrame → IntFrame → Type 0
Leads locals words piece f g = (h : IntFrame) × Runs Written (2 * words + 16) piece g h × Widened locals words f h

module _ (locals words : ℕ) where
  -- a slot of a tag is set
  tagged : (f f1 g : IntFrame) (k : ℕ) → Widened locals words f g → length f1.locals ≡ locals → f1.depth ≤ words → ((i : ℕ) → IsInt f1.locals i → IsInt (slice_set g.locals k types.Int) i)
      → Widened locals words f1 (at_depth (with_int g k) f1.depth)
  tagged f f1 g k wide sized low ints = record {
    sized = sized;
    low = low;
    room = (let q = length_set g.locals k types.Int in omega (arith, wide.room));
    depth = refl;
    ints = ints;
    tags = λ j l h. int_kept g.locals k j (wide.tags j l h);
  }

  same_ints : (f f1 g : IntFrame) (k : ℕ) → Widened locals words f g → f1.locals ≡ f.locals → (i : ℕ) → IsInt f1.locals i → IsInt (slice_set g.locals k types.Int) i
  same_ints f f1 g k wide same i h = int_kept g.locals k i (wide.ints i (subst (λ (ls : List VType). IsInt ls i) same h))

  -- a value comes with a tag that is known
  put_typed : (insn : Insn) (n : ℤ) (f f1 g : IntFrame) → Types Written (2 * words + 16) insn g (at_depth g (g.depth + 1)) → f.depth < words → f1.depth ≡ f.depth + 1 → f1.locals ≡ f.locals → Widened locals words f g
      → Leads locals words (insn ∷ PushInt n ∷ store (word_tag locals f.depth) ∷ []) f1 g
  put_typed insn n f f1 g first fits deeper same wide =
      let h : IntFrame = at_depth (with_int g (word_tag locals f.depth)) f1.depth in (
        h,
        (
          at_depth g (g.depth + 1),
          first,
          (
            at_depth g (g.depth + 2),
            (omega (arith, wide.depth), omega arith, refl),
            (h, (omega (arith, wide.room), omega (arith, deeper, wide.depth), refl), refl),
          ),
        ),
        tagged f f1 g (word_tag locals f.depth) wide (ap length same ∙ wide.sized) (omega arith) (same_ints f f1 g (word_tag locals f.depth) wide same),
      )

  load_typed : (i : ℕ) (f f1 g : IntFrame) → IsInt f.locals i → i < locals → f.depth < words → f1.depth ≡ f.depth + 1 → f1.locals ≡ f.locals → Widened locals words f g
      → Leads locals words (load i ∷ load (local_tag locals i) ∷ store (word_tag locals f.depth) ∷ []) f1 g
  load_typed i f f1 g holds within fits deeper same wide =
      let h : IntFrame = at_depth (with_int g (word_tag locals f.depth)) f1.depth in (
        h,
        (
          at_depth g (g.depth + 1),
          (wide.ints i holds, (omega (arith, wide.depth), refl, refl)),
          (
            at_depth g (g.depth + 2),
            (wide.tags (local_tag locals i) (omega arith) (omega arith), (omega (arith, wide.depth), omega arith, refl)),
            (h, (omega (arith, wide.room), omega (arith, deeper, wide.depth), refl), refl),
          ),
        ),
        tagged f f1 g (word_tag locals f.depth) wide (ap length same ∙ wide.sized) (omega arith) (same_ints f f1 g (word_tag locals f.depth) wide same),
      )

  store_typed : (i : ℕ) (f f1 g : IntFrame) → i < locals → f.depth ≡ f1.depth + 1 → f1.locals ≡ slice_set f.locals i types.Int → Widened locals words f g
      → Leads locals words (load (word_tag locals (f.depth - 1)) ∷ store (local_tag locals i) ∷ store i ∷ []) f1 g
  store_typed i f f1 g within shallower now wide =
      let g1 : IntFrame = with_int g (local_tag locals i) in
      let h : IntFrame = at_depth (with_int g1 i) f1.depth in
      let same_length : length g1.locals ≡ length g.locals = length_set g.locals (local_tag locals i) types.Int in (
        h,
        (
          at_depth g (g.depth + 1),
          (wide.tags (word_tag locals (f.depth - 1)) (omega arith) (omega (arith, wide.low)), (omega (arith, wide.depth, wide.low), refl, refl)),
          (
            g1,
            (omega (arith, wide.room), omega arith, refl),
            (h, (omega (arith, wide.room, same_length), omega (arith, wide.depth), refl), refl),
          ),
        ),
        record {
          sized = ap length now ∙ length_set f.locals i types.Int ∙ wide.sized;
          low = omega (arith, wide.low);
          room = (let q = length_set g1.locals i types.Int in omega (arith, wide.room, same_length));
          depth = refl;
          ints = λ j holds. ⊎_elim
              (λ q. subst (λ (k : ℕ). IsInt (slice_set g1.locals i types.Int) k) (sym q.0) (int_set g1.locals i (omega (arith, wide.room, same_length))))
              (λ q. int_kept g1.locals i j (int_kept g.locals (local_tag locals i) j (wide.ints j q.1)))
              (get_set_cases f.locals i j types.Int types.Int (subst (λ (ls : List VType). IsInt ls j) now holds));
          tags = λ j l k. int_kept g1.locals i j (int_kept g.locals (local_tag locals i) j (wide.tags j l k));
        },
      )

  pop_typed : (f f1 g : IntFrame) → f.depth ≡ f1.depth + 1 → f1.locals ≡ f.locals → Widened locals words f g → Leads locals words (Stack stack.Pop ∷ []) f1 g
  pop_typed f f1 g shallower same wide = (
    at_depth g f1.depth,
    (at_depth g f1.depth, (omega (arith, wide.depth), refl), refl),
    record { sized = ap length same ∙ wide.sized; low = omega (arith, wide.low); room = wide.room; depth = refl; ints = λ i h. wide.ints i (subst (λ (ls : List VType). IsInt ls i) same h); tags = wide.tags },
  )

  join_typed : (op : BinOp) (f f1 g : IntFrame) → IsFirstOp op → 1 ≤ f1.depth → f.depth ≡ f1.depth + 1 → f1.locals ≡ f.locals → Widened locals words f g
      → Leads locals words (Bin width.Int op ∷ load (word_tag locals (f.depth - 2)) ∷ load (word_tag locals (f.depth - 1)) ∷ Bin width.Int operation.Or ∷ store (word_tag locals (f.depth - 2)) ∷ []) f1 g
  join_typed op f f1 g built some shallower same wide =
      let k = word_tag locals (f.depth - 2) in
      let h : IntFrame = at_depth (with_int g k) f1.depth in (
        h,
        (
          at_depth g f1.depth,
          (built, (some, omega (arith, wide.depth), refl)),
          (
            at_depth g (f1.depth + 1),
            (wide.tags k (omega arith) (omega (arith, wide.low)), (omega (arith, wide.low), refl, refl)),
            (
              at_depth g (f1.depth + 2),
              (wide.tags (word_tag locals (f.depth - 1)) (omega arith) (omega (arith, wide.low)), (omega (arith, wide.low), omega arith, refl)),
              (
                at_depth g (f1.depth + 1),
                (tt, (omega arith, omega arith, refl)),
                (h, (omega (arith, wide.room, wide.low), omega arith, refl), refl),
              ),
            ),
          ),
        ),
        tagged f f1 g k wide (ap length same ∙ wide.sized) (omega (arith, wide.low)) (same_ints f f1 g k wide same),
      )

  write_typed_as : (b : Bool) (slot : ℕ) (f f1 g : IntFrame) → f.depth ≡ f1.depth + 1 → IsInt g.locals slot → Widened locals words f g → Widened locals words f1 (at_depth g f1.depth)
      → Leads locals words ((if b then PushInt (pos 0) ∷ PushInt (pos 0) ∷ load slot ∷ Invoke invoke.Static report_ref ∷ [] else []) ++ Invoke invoke.Static (form.ref_of Write) ∷ []) f1 g
  write_typed_as false slot f f1 g shallower holds wide wide1 =
      (at_depth g f1.depth, (at_depth g f1.depth, (Write, refl, (omega (arith, wide.depth), refl)), refl), wide1)
  write_typed_as true slot f f1 g shallower holds wide wide1 = (
    at_depth g f1.depth,
    (
      at_depth g (g.depth + 1),
      (omega (arith, wide.depth, wide.low), refl, refl),
      (
        at_depth g (g.depth + 2),
        (omega (arith, wide.depth, wide.low), omega arith, refl),
        (
          at_depth g (g.depth + 3),
          (holds, (omega (arith, wide.depth, wide.low), omega arith, refl)),
          (
            g,
            (Report, refl, (omega arith, refl)),
            (at_depth g f1.depth, (Write, refl, (omega (arith, wide.depth), refl)), refl),
          ),
        ),
      ),
    ),
    wide1,
  )

  write_typed : (b : Bool) (slot : ℕ) (f f1 g : IntFrame) → f.depth ≡ f1.depth + 1 → f1.locals ≡ f.locals → IsInt g.locals slot → Widened locals words f g
      → Leads locals words ((if b then PushInt (pos 0) ∷ PushInt (pos 0) ∷ load slot ∷ Invoke invoke.Static report_ref ∷ [] else []) ++ Invoke invoke.Static (form.ref_of Write) ∷ []) f1 g
  write_typed b slot f f1 g shallower same holds wide =
      let wide1 : Widened locals words f1 (at_depth g f1.depth) = record { sized = ap length same ∙ wide.sized; low = omega (arith, wide.low); room = wide.room; depth = refl; ints = λ i h. wide.ints i (subst (λ (ls : List VType). IsInt ls i) same h); tags = wide.tags } in
      write_typed_as b slot f f1 g shallower holds wide wide1

  call_typed : (marks : Marks) (native : Native) (method : MethodRef) (f f1 g : IntFrame) → method ≡ form.ref_of native → Calls Source words native f f1 → Widened locals words f g
      → Leads locals words (piece_of locals marks (Invoke invoke.Static method) f.depth) f1 g
  call_typed marks Read method f f1 g is h wide =
      subst (λ (m : MethodRef). Leads locals words (piece_of locals marks (Invoke invoke.Static m) f.depth) f1 g) (sym is)
      (put_typed (Invoke invoke.Static (form.ref_of Read)) marks.read f f1 g (Read, refl, (omega (arith, wide.depth, h.0), refl, refl)) h.0 h.1 h.2 wide)
  call_typed marks Write method f f1 g is h wide =
      subst (λ (m : MethodRef). Leads locals words (piece_of locals marks (Invoke invoke.Static m) f.depth) f1 g) (sym is)
      (write_typed marks.write (word_tag locals (f.depth - 1)) f f1 g h.0 h.1 (wide.tags (word_tag locals (f.depth - 1)) (omega arith) (omega (arith, wide.low, h.0))) wide)
  call_typed marks Report method f f1 g is h wide = absurd h

  -- each piece
  piece_typed : (marks : Marks) (insn : Insn) (f f1 g : IntFrame) → Types Source words insn f f1 → Widened locals words f g → Leads locals words (piece_of locals marks insn f.depth) f1 g
  piece_typed marks (PushInt number) f f1 g h wide = put_typed (PushInt number) (pos 0) f f1 g (omega (arith, wide.depth, h.0), refl, refl) h.0 h.1 h.2 wide
  piece_typed marks (Load kind.Int i) f f1 g h wide = load_typed i f f1 g h.0 (let q = slice_get_within f.locals i types.Int h.0 in omega (arith, wide.sized)) h.1.0 h.1.1 h.1.2 wide
  piece_typed marks (Store kind.Int i) f f1 g h wide = store_typed i f f1 g (omega (arith, h.0, wide.sized)) h.1 h.2 wide
  piece_typed marks (Stack stack.Pop) f f1 g h wide = pop_typed f f1 g h.0 h.1 wide
  piece_typed marks (Bin width.Int op) f f1 g h wide = join_typed op f f1 g h.0 h.1.0 h.1.1 h.1.2 wide
  piece_typed marks (Invoke invoke.Static method) f f1 g h wide = call_typed marks h.0 method f f1 g h.1 h.2 wide
  piece_typed marks _ f f1 g h wide = absurd h

  -- all of them
  pieces_typed : (marks : Marks) (body : List Insn) (f last g : IntFrame) (d : ℕ) → d ≡ f.depth → Runs Source words body f last → Widened locals words f g
      → (h : IntFrame) × Runs Written (2 * words + 16) (pieces locals marks body d) g h
  pieces_typed marks [] f last g d deep runs wide = (g, refl)
  pieces_typed marks (x ∷ xs) f last g d deep runs wide =
      let a = piece_typed marks x f runs.0 g runs.1 wide in
      let b = pieces_typed marks xs runs.0 last a.0 (after x d) (ap (λ (k : ℕ). after x k) deep ∙ sym (insn_depth words x f runs.0 runs.1)) runs.2 a.2 in (
        b.0,
        runs_append (2 * words + 16) (piece_of locals marks x d) (pieces locals marks xs (after x d)) g a.0 b.0
            (subst (λ (k : ℕ). Runs Written (2 * words + 16) (piece_of locals marks x k) g a.0) (sym deep) a.1) b.1,
      )

-- ---- the prologue

abbrev filled : List VType → ℕ → ℕ → List VType
filled ls from zero = ls
filled ls from (suc count) = filled (slice_set ls from types.Int) (from + 1) count

length_filled : (ls : List VType) (from count : ℕ) → length (filled ls from count) ≡ length ls
length_filled ls from zero = refl
length_filled ls from (suc count) = length_filled (slice_set ls from types.Int) (from + 1) count ∙ length_set ls from types.Int

filled_kept : (ls : List VType) (from count i : ℕ) → IsInt ls i → IsInt (filled ls from count) i
filled_kept ls from zero i h = h
filled_kept ls from (suc count) i h = filled_kept (slice_set ls from types.Int) (from + 1) count i (int_kept ls from i h)

filled_int : (ls : List VType) (from count i : ℕ) → from + count ≤ length ls → from ≤ i → i < from + count → IsInt (filled ls from count) i
filled_int ls from zero i room low high = absurd (omega arith)
filled_int ls from (suc count) i room low high =
    let same = length_set ls from types.Int in
    ⊎_elim
    (λ e. filled_kept (slice_set ls from types.Int) (from + 1) count i (subst (λ (k : ℕ). IsInt (slice_set ls from types.Int) k) (sym e) (int_set ls from (omega arith))))
    (λ ne. filled_int (slice_set ls from types.Int) (from + 1) count i (omega arith) (let q : i ≢ from = ne in omega arith) (omega arith))
    (cases_eq i from)

prologue_typed : (most from count : ℕ) (g : IntFrame) → g.depth < most → from + count ≤ length g.locals → Runs Written most (cleared from count) g (record { locals = filled g.locals from count; depth = g.depth })
prologue_typed most from zero g fits room = refl
prologue_typed most from (suc count) g fits room =
    let same = length_set g.locals from types.Int in (
      at_depth g (g.depth + 1),
      (fits, refl, refl),
      (
        with_int g from,
        (omega arith, refl, refl),
        prologue_typed most (from + 1) count (with_int g from) fits (omega arith),
      ),
    )

-- ---- the whole code

abbrev returning : List Insn → List Insn
returning body = body ++ Return None ∷ []

pieces_return : (locals : ℕ) (marks : Marks) (body : List Insn) (d : ℕ) → pieces locals marks (returning body) d ≡ returning (pieces locals marks body d)
pieces_return locals marks [] d = refl
pieces_return locals marks (x ∷ xs) d =
    ap (λ (ys : List Insn). piece_of locals marks x d ++ ys) (pieces_return locals marks xs (after x d))
    ∙ sym (append_assoc (piece_of locals marks x d) (pieces locals marks xs (after x d)) (Return None ∷ []))

get_replicate : {A : Type 0} (count i : ℕ) (x y : A) → slice_get (replicate count x) i ≡ Some y → x ≡ y
get_replicate zero i x y h = cc
get_replicate (suc count) zero x y h = same_Some x y h
get_replicate (suc count) (suc i) x y h = get_replicate count i x y h

first_int : (locals i : ℕ) → IsInt (first_frame locals).locals i → ⊥
first_int locals zero h = let q : types.Ref words_type ≡ types.Int = same_Some (types.Ref words_type) types.Int h in cc
first_int locals (suc i) h = let q : types.Top ≡ types.Int = get_replicate (locals - 1) i types.Top types.Int h in cc

first_widened : (locals words : ℕ) → 1 ≤ locals
    → Widened locals words (first_frame locals) (record { locals = filled (first_frame (2 * locals + words + 8)).locals locals (locals + words); depth = 0 })
first_widened locals words some =
    let size : length (first_frame (2 * locals + words + 8)).locals ≡ 2 * locals + words + 8 = first_sized (2 * locals + words + 8) (omega arith) in
    let same = length_filled (first_frame (2 * locals + words + 8)).locals locals (locals + words) in
    record {
      sized = first_sized locals some;
      low = omega arith;
      room = omega (arith, size, same);
      depth = refl;
      ints = λ i h. absurd (first_int locals i h);
      tags = λ j l k. filled_int (first_frame (2 * locals + words + 8)).locals locals (locals + words) j (omega (arith, size)) l (omega arith);
    }

-- the written code is straight-line code again
pub written_straight : (marks : Marks) (code : CodeDef) → IsStraight Source code → IsStraight Written (written_code marks code)
written_straight marks code straight =
    let locals = code.max_locals in
    let words = code.max_stack in
    let most = 2 * words + 16 in
    let g : IntFrame = first_frame (2 * locals + words + 8) in
    let size : length g.locals ≡ 2 * locals + words + 8 = first_sized (2 * locals + words + 8) (omega arith) in
    let behind : IntFrame = record { locals = filled g.locals locals (locals + words); depth = 0 } in
    let a = pieces_typed locals words marks straight.body (first_frame locals) straight.last behind 0 refl straight.runs (first_widened locals words straight.local_of_words) in
    record {
      no_handler = refl;
      no_frame = refl;
      no_line = refl;
      local_of_words = omega arith;
      body = cleared locals (locals + words) ++ pieces locals marks straight.body 0;
      returns =
          ap (λ (xs : List Insn). cleared locals (locals + words) ++ pieces locals marks xs 0) straight.returns
          ∙ ap (λ (xs : List Insn). cleared locals (locals + words) ++ xs) (pieces_return locals marks straight.body 0)
          ∙ sym (append_assoc (cleared locals (locals + words)) (pieces locals marks straight.body 0) (Return None ∷ []));
      last = a.0;
      runs = runs_append most (cleared locals (locals + words)) (pieces locals marks straight.body 0) g behind a.0 (prologue_typed most locals (locals + words) g (omega arith) (omega (arith, size))) a.1;
    }
