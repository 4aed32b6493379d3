-- The bytes that are written for frames stand for them.
use Rattle.std.proofs.Common.{◌≡◌, ℕ, suc, ◌+◌, ◌-◌, ◌<◌, ◌≤◌, ◌^◌, false, ltb, List, [], ◌∷◌, ◌++◌, length, All, refl, sym, ap, subst, ◌∙◌, arith, lit<}
use Rattle.std.specs.Int.{w16, to_be_bytes}
use Rattle.std.specs.List.{flat_map}
use Rattle.std.proofs.lemmas.Bool.{le-ltb}
use Rattle.std.proofs.lemmas.List.{append-nil}
use Rattle.std.proofs.lemmas.List.Elements.{All-head, All-tail}
use Rattle.class_input.specs.Grammar.{IsU16, Each}
use Rattle.stack_maps.specs.declared.frame.RawType.{RawType}
use Rattle.stack_maps.specs.declared.frame.RawType.TheVariants.{Top, Int, Long, Null, UninitThis, Object, Uninit, First}
use Rattle.stack_maps.specs.declared.frame.RawFrame.{RawFrame}
use Rattle.stack_maps.specs.declared.written.Entries.{Entries}
use Rattle.stack_maps.specs.declared.written.Locals.TheVariants.{Full}
use Rattle.stack_maps.specs.declared.written.Written.{Written}
use Rattle.stack_maps.specs.Bounds.{TypeFits, FrameFits}
use Rattle.stack_maps.specs.Grammar.{IsType, AreCounted, IsFull, IsFrame, AreFrames, IsTable}
use Rattle.stack_maps.specs.Expand.{in_full, expanded}
use Rattle.stack_maps.specs.Spelling.{HasBytes, IsWritable, Ascending, type_text, types_text, frame_text, frames_text, table_text}
use Rattle.stack_maps.specs.Reading.{decoded}
use Rattle.stack_maps.specs.Table.{StandsFor}
use Rattle.stack_maps.proofs.ExpandLoops.{well}
use Rattle.stack_maps.proofs.TableLaws.{stands_decoded}

type_stands : (t : RawType) → HasBytes t → TypeFits t → IsType (type_text t) t
type_stands Top h fits = refl
type_stands Int h fits = refl
type_stands Long h fits = refl
type_stands Null h fits = refl
type_stands UninitThis h fits = refl
type_stands (Object k) h fits = (fits, refl)
type_stands (Uninit k) h fits = (fits, refl)
type_stands (First k) h fits = absurd h

types_stand : (ts : List RawType) → All HasBytes ts → All TypeFits ts → Each IsType (flat_map type_text ts) ts
types_stand [] h fits = refl
types_stand (t ∷ ts) h fits = (type_text t, flat_map type_text ts, refl, type_stands t (All-head HasBytes t ts h) (All-head TypeFits t ts fits), types_stand ts (All-tail HasBytes t ts h) (All-tail TypeFits t ts fits))

abbrev types_at : ℕ → List RawType → Entries
types_at at ts = record { at = at; types = ts }

few_count : (n : ℕ) → n ≤ 65535 → IsU16 (to_be_bytes w16 n) n
few_count n few = (omega arith, refl)

counted_stand : (at : ℕ) (ts : List RawType) → length ts ≤ 65535 → All HasBytes ts → All TypeFits ts → AreCounted at (types_text ts) (types_at (at + 2) ts)
counted_stand at ts few h fits = record {
  count = to_be_bytes w16 (length ts);
  types = flat_map type_text ts;
  spelled = refl;
  count_is = few_count (length ts) few;
  types_are = record { begins = refl; counted = refl; each_is = types_stand ts h fits };
}

-- a full frame, whose type byte stands at a place
abbrev full_at : ℕ → ℕ → RawFrame → Written
full_at at next f = record {
  delta_at = at + 1;
  delta = f.offset - next;
  locals = Full (types_at (at + 1 + 2 + 2) f.locals);
  stack = types_at (at + 1 + 2 + length (types_text f.locals) + 2) f.stack;
}

full_stands : (at next : ℕ) (f : RawFrame) → IsWritable f → FrameFits f → IsFull (at + 1) (to_be_bytes w16 (f.offset - next) ++ (types_text f.locals ++ types_text f.stack)) (full_at at next f)
full_stands at next f w fits = record {
  delta = to_be_bytes w16 (f.offset - next);
  locals = types_text f.locals;
  stack = types_text f.stack;
  entries = types_at (at + 1 + 2 + 2) f.locals;
  spelled = refl;
  delta_at = refl;
  delta_is = (let o = fits.offset in omega arith, refl);
  locals_are = refl;
  entries_are = counted_stand (at + 1 + 2) f.locals w.few_locals w.locals_have fits.locals;
  stack_is = counted_stand (at + 1 + 2 + length (types_text f.locals)) f.stack w.few_items w.stack_has fits.stack;
}

frame_stands : (known at next : ℕ) (f : RawFrame) → IsWritable f → FrameFits f → IsFrame known at (frame_text next f) (full_at at next f)
frame_stands known at next f w fits = record {
  tag = 255;
  form = to_be_bytes w16 (f.offset - next) ++ (types_text f.locals ++ types_text f.stack);
  spelled = refl;
  byte = lit< tt;
  form_is = full_stands at next f w fits;
}

abbrev all_at : ℕ → ℕ → List RawFrame → List Written
all_at at next [] = []
all_at at next (f ∷ fs) = full_at at next f ∷ all_at (at + length (frame_text next f)) (f.offset + 1) fs

all_long : (at next : ℕ) (fs : List RawFrame) → length (all_at at next fs) ≡ length fs
all_long at next [] = refl
all_long at next (f ∷ fs) = ap suc (all_long (at + length (frame_text next f)) (f.offset + 1) fs)

frames_stand : (known at next : ℕ) (fs : List RawFrame) → All IsWritable fs → All FrameFits fs → AreFrames known at (frames_text next fs) (all_at at next fs)
frames_stand known at next [] w fits = refl
frames_stand known at next (f ∷ fs) w fits = (
  frame_text next f,
  frames_text (f.offset + 1) fs,
  refl,
  frame_stands known at next f (All-head IsWritable f fs w) (All-head FrameFits f fs fits),
  frames_stand (length f.locals) (at + length (frame_text next f)) (f.offset + 1) fs (All-tail IsWritable f fs w) (All-tail FrameFits f fs fits),
)

table_stands : (known : ℕ) (fs : List RawFrame) → length fs ≤ 65535 → All IsWritable fs → All FrameFits fs → IsTable known 0 (table_text fs) (all_at (0 + 2) 0 fs)
table_stands known fs few w fits = record {
  count = to_be_bytes w16 (length fs);
  entries = frames_text 0 fs;
  spelled = refl;
  count_is = subst (λ (n : ℕ). IsU16 (to_be_bytes w16 (length fs)) n) (sym (all_long (0 + 2) 0 fs)) (few_count (length fs) few);
  frames_are = frames_stand known (0 + 2) 0 fs w fits;
}

-- ---- expanding gives the frames back

full_back : (at next : ℕ) (before : List RawType) (f : RawFrame) → next ≤ f.offset → f.offset < 2 ^ 16 → in_full next before (full_at at next f) ≡ well f
unfolding in_full
full_back at next before f le lt =
    let sum : next + (f.offset - next) ≡ f.offset = omega arith in
    let small : ltb 65535 f.offset ≡ false = le-ltb 65535 f.offset (omega arith) in
    rw (sum, small) refl

frames_back : (at next : ℕ) (before : List RawType) (fs : List RawFrame) → Ascending next fs → All FrameFits fs → expanded next before (all_at at next fs) ≡ well fs
unfolding expanded
frames_back at next before [] h fits = refl
frames_back at next before (f ∷ fs) h fits =
    let one = full_back at next before f h.0 ((All-head FrameFits f fs fits).offset) in
    let more = frames_back (at + length (frame_text next f)) (f.offset + 1) f.locals fs h.1 (All-tail FrameFits f fs fits) in
    rw (one, more) refl

pub table_back : (first : List RawType) (fs : List RawFrame) → Ascending 0 fs → length fs ≤ 65535 → All IsWritable fs → All FrameFits fs → StandsFor first (table_text fs) fs
table_back first fs ascending few w fits = record {
  text = table_text fs;
  rest = [];
  written = all_at (0 + 2) 0 fs;
  spelled = sym (append-nil (table_text fs));
  table_is = table_stands (length first) fs few w fits;
  frames_are = frames_back (0 + 2) 0 first fs ascending fits;
}

pub table_decoded : (first : List RawType) (fs : List RawFrame) → Ascending 0 fs → length fs ≤ 65535 → All IsWritable fs → All FrameFits fs → decoded first (table_text fs) ≡ well fs
table_decoded first fs ascending few w fits =
    let h = table_back first fs ascending few w fits in
    stands_decoded first (table_text fs) h.text h.rest h.written h.table_is h.spelled ∙ h.frames_are
