-- Reading the frames of a table is exact for what its bytes are.
use Rattle.std.proofs.Common.{◌≡◌, ℕ, ◌+◌, ◌≤◌, Bool, true, false, cond, ltb, List, [], ◌∷◌, ◌++◌, length, drop, map, All, Result, Ok, Err, refl, sym, ap, subst, ◌∙◌, zero-add}
use Rattle.std.proofs.lemmas.Bool.{ltb-false}
use Rattle.std.proofs.lemmas.List.{drop_at}
use Rattle.std.proofs.lemmas.List.Elements.{All-nil, All-cons, All-head, All-tail}
use Rattle.class_input.specs.Reading.{In, Fault, judging}
use Rattle.class_input.specs.Grammar.{IsBytes}
use Rattle.class_input.proofs.Laws.{answer, answer_is, from, Takes, Exact}
use Rattle.class_model.specs.declared.types.JType.{JType}
use Rattle.class_model.specs.declared.class.VType.{VType}
use Rattle.class_model.specs.declared.class.Frame.{Frame}
use Rattle.const_pool.specs.Pool.{Pool}
use Rattle.class_names.specs.Names.{NamesType}
use Rattle.class_names.proofs.StepLaws.{fine}
use Rattle.class_names.proofs.NameLaws.{class_type_judges}
use Rattle.insn_code.specs.Linking.{Code}
use Rattle.code_tables.specs.CodeTables.{Begins}
use Rattle.stack_maps.specs.declared.frame.RawType.{RawType}
use Rattle.stack_maps.specs.declared.frame.RawType.TheVariants as raw
use Rattle.stack_maps.specs.declared.frame.RawFrame.{RawFrame}
use Rattle.stack_maps.specs.declared.frame_stop.FrameStop.{FrameStop}
use Rattle.stack_maps.specs.declared.frame_stop.FrameStop.TheVariants.{Offset}
use Rattle.stack_maps.specs.declared.marks.Mark.{Mark}
use Rattle.stack_maps.specs.declared.marks.Mark.TheVariants as marks
use Rattle.stack_maps.specs.declared.marks.FrameMark.{FrameMark}
use Rattle.stack_maps.specs.declared.written.Written.{Written}
use Rattle.stack_maps.specs.Expand.{in_full, in_front, offset_of, expanded}
use Rattle.stack_maps.specs.Marks.{table_marks}
use Rattle.stack_maps.specs.Reading.{decoded, marked}
use Rattle.stack_maps.specs.Table.{HasMarks}
use Rattle.stack_maps.proofs.ExpandLoops.{well}
use Rattle.stack_maps.proofs.TableLaws.{judging_ok, well_is, stands_decoded, marks_found}
use Rattle.stack_maps.proofs.FrameLaws.{table_exact}
use Rattle.stack_maps.proofs.MarkLaws.{OfType, OfPlaced, OfFrame, frames_judged, offset_then, offsets_from, offsets_are}
use Rattle.frame_tables.specs.FrameTable.{numbered, IsNew, IsVType, Alike, IsFrame, AreFrames}
use Rattle.frame_tables.specs.FrameReading.{placed, mark_judged, marks_judged, each_of, frame, frames_in_full, frames}
use Rattle.frame_tables.proofs.NameLaws.{start_judges, new_judges, SmallFrame, frames_judge}

-- ---- what is expanded does not pass 65,535

not_past : (b : Bool) (stop : FrameStop) (n m : ℕ) → cond b (Err stop) (well n) ≡ well m → (b ≡ false) × (n ≡ m)
not_past true stop n m h = absurd cc
not_past false stop n m h = (refl, well_is n m h)

abbrev IsSmallOffset : RawFrame → Type 0
IsSmallOffset f = f.offset ≤ 65535

in_full_small : (next : ℕ) (before : List RawType) (w : Written) (f : RawFrame) → in_full next before w ≡ well f → IsSmallOffset f
unfolding in_full
in_full_small next before w f h =
    let b = judging_ok (offset_of next w) _ f h in
    let c = not_past (ltb 65535 (next + w.delta)) (Offset w.delta_at) (next + w.delta) b.0 b.1 in
    let small : b.0 ≤ 65535 = subst (λ (z : ℕ). z ≤ 65535) c.1 (ltb-false 65535 (next + w.delta) c.0) in
    let same = well_is _ f b.2 in
    subst (λ (z : RawFrame). IsSmallOffset z) same small

front_is : (f : RawFrame) (r : Result (List RawFrame) FrameStop) (fs : List RawFrame) → in_front (f ∷ []) r ≡ well fs → (others : List RawFrame) × (r ≡ well others) × (f ∷ others ≡ fs)
front_is f (Ok others) fs h = (others, refl, well_is (f ∷ others) fs h)
front_is f (Err stop) fs h = absurd cc

expanded_small : (next : ℕ) (before : List RawType) (ws : List Written) (fs : List RawFrame) → expanded next before ws ≡ well fs → All IsSmallOffset fs
unfolding expanded
expanded_small next before [] fs h = subst (λ (z : List RawFrame). All IsSmallOffset z) (well_is [] fs h) (All-nil IsSmallOffset)
expanded_small next before (w ∷ ws) fs h =
    let b = judging_ok (in_full next before w) (λ full. in_front (full ∷ []) (expanded (full.offset + 1) full.locals ws)) fs h in
    let c = front_is b.0 (expanded (b.0.offset + 1) b.0.locals ws) fs b.2 in
    let more = expanded_small (b.0.offset + 1) b.0.locals ws c.0 c.1 in
    subst (λ (z : List RawFrame). All IsSmallOffset z) c.2 (All-cons IsSmallOffset b.0 c.0 (in_full_small next before w b.0 b.1) more)

-- ---- what is judged of marks

-- what a mark names is there
abbrev Named : Pool → Code → Mark → Type 0
Named p code (marks.Delta delta) = Unit {0}
Named p code (marks.Object k) = (ty : JType) × NamesType p k ty
Named p code (marks.Uninit offset) = (number : ℕ) × Begins code.1 offset number × IsNew code.0 number

-- the offset of a frame is that of an instruction, and does not pass 65,535
abbrev Starts : Code → ℕ → Type 0
Starts code offset = (number : ℕ) × (offset ≤ 65535) × Begins code.1 offset number

abbrev passed : Result (Unit {0}) Fault
passed = Ok tt

mark_passes : (p : Pool) (code : Code) (place next : ℕ) (mark : Mark) (rest : ℕ → Result (Unit {0}) Fault) (others : ℕ → List ℕ) → Named p code mark → All (Starts code) (offset_then next mark others)
    → ((after : ℕ) → All (Starts code) (others after) → rest after ≡ passed) → judging (mark_judged p code place next mark) rest ≡ passed
mark_passes p code place next (marks.Delta delta) rest others named starts go =
    let offset = next + delta in
    let one = All-head (Starts code) offset (others (offset + 1)) starts in
    rw ((start_judges code place offset).again one.0 (one.1, one.2)) (go (offset + 1) (All-tail (Starts code) offset (others (offset + 1)) starts))
mark_passes p code place next (marks.Object k) rest others named starts go = rw ((class_type_judges p place k).again named.0 named.1) (go next starts)
mark_passes p code place next (marks.Uninit offset) rest others named starts go = rw ((new_judges code place offset).again named.0 (named.1, named.2)) (go next starts)

marks_pass : (p : Pool) (code : Code) (start next : ℕ) (ms : List FrameMark) → All (OfPlaced (Named p code)) ms → All (Starts code) (offsets_from next ms) → marks_judged p code start next ms ≡ passed
unfolding marks_judged
marks_pass p code start next [] named starts = refl
marks_pass p code start next (m ∷ ms) named starts =
    mark_passes p code (start + m.place) next m.mark (λ after. marks_judged p code start after ms) (λ after. offsets_from after ms) (All-head (OfPlaced (Named p code)) m ms named) starts (λ after more.
    marks_pass p code start after ms (All-tail (OfPlaced (Named p code)) m ms named) more)

-- ---- what is known of frames

type_named : (p : Pool) (code : Code) (first : List VType) (t : RawType) (v : VType) → IsVType p code first t v → OfType (Named p code) t
type_named p code first raw.Top v h = tt
type_named p code first raw.Int v h = tt
type_named p code first raw.Long v h = tt
type_named p code first raw.Null v h = tt
type_named p code first raw.UninitThis v h = tt
type_named p code first (raw.Object k) v h = (h.0, h.1)
type_named p code first (raw.Uninit offset) v h = (h.0, h.1, h.2)
type_named p code first (raw.First k) v h = tt

types_named : (p : Pool) (code : Code) (first : List VType) (ts : List RawType) (vs : List VType) → Alike (IsVType p code first) ts vs → All (OfType (Named p code)) ts
types_named p code first [] vs h = All-nil (OfType (Named p code))
types_named p code first (t ∷ ts) [] h = absurd h
types_named p code first (t ∷ ts) (v ∷ vs) h = All-cons (OfType (Named p code)) t ts (type_named p code first t v h.0) (types_named p code first ts vs h.1)

-- of frames that were expanded: their types name something, and their offsets are those of instructions
record Known (p : Pool) (code : Code) (first : List VType) (fs : List RawFrame) (frames : List (ℕ × Frame)) : Type 0 where
  named : All (OfFrame (Named p code)) fs
  starts : All (Starts code) (map (λ f. f.offset) fs)
  small : Alike (SmallFrame p code first) fs frames

known : (p : Pool) (code : Code) (first : List VType) (fs : List RawFrame) (frames : List (ℕ × Frame)) → All IsSmallOffset fs → Alike (IsFrame p code first) fs frames → Known p code first fs frames
known p code first [] [] small h = record { named = All-nil (OfFrame (Named p code)); starts = All-nil (Starts code); small = tt }
known p code first [] (x ∷ frames) small h = absurd h
known p code first (f ∷ fs) [] small h = absurd h
known p code first (f ∷ fs) (x ∷ frames) small h =
    let one = h.0 in
    let low = All-head IsSmallOffset f fs small in
    let more = known p code first fs frames (All-tail IsSmallOffset f fs small) h.1 in
    record {
      named = All-cons (OfFrame (Named p code)) f fs (record { locals = types_named p code first f.locals x.1.locals one.locals_are; stack = types_named p code first f.stack x.1.stack one.stack_is }) more.named;
      starts = All-cons (Starts code) f.offset (map (λ f. f.offset) fs) (x.0, low, one.begins) more.starts;
      small = ((low, one), more.small);
    }

-- a frame that does not pass 65,535 is a frame
are_frames : (p : Pool) (code : Code) (first : List VType) (fs : List RawFrame) (frames : List (ℕ × Frame)) → Alike (SmallFrame p code first) fs frames → Alike (IsFrame p code first) fs frames
are_frames p code first [] [] h = tt
are_frames p code first [] (x ∷ frames) h = absurd h
are_frames p code first (f ∷ fs) [] h = absurd h
are_frames p code first (f ∷ fs) (x ∷ frames) h = (h.0.1, are_frames p code first fs frames h.1)

-- ---- the table

judging_is : {A B : Type 0} (r : Result A Fault) (f : A → Result B Fault) (b : B) → judging r f ≡ fine b → (a : A) × (r ≡ fine a) × (f a ≡ fine b)
judging_is (Ok a) f b h = (a, refl, h)
judging_is (Err d) f b h = absurd cc

placed_is : {A : Type 0} (start : ℕ) (r : Result A FrameStop) (a : A) → placed start r ≡ fine a → r ≡ well a
placed_is start (Ok b) a h = cc
placed_is start (Err stop) a h = absurd cc

abbrev Frames : Type 0
Frames = List (ℕ × Frame)

-- what a table gives, once its frames have their shape
abbrev behind_shape : Pool → Code → List VType → In → List FrameMark × ℕ → Result (Frames × In) Fault
behind_shape p code first i read =
    judging (marks_judged p code i.at 0 read.0) (λ u. judging (frames_in_full p code first i.at i.rest) (λ frames. answer frames (from (i.at + read.1) (drop read.1 i.rest))))

abbrev entries : List VType → List RawType
entries first = numbered 0 first

frames_take : (p : Pool) (code : Code) (first : List VType) (i : In) (x : Frames) (j : In) → IsBytes i.rest → frames p code first i ≡ answer x j → Takes (AreFrames p code first) i x j
unfolding frames frames_in_full
frames_take p code first i x j fits h =
    let shape = judging_is (placed i.at (marked (length (entries first)) i.rest)) (behind_shape p code first i) (x, j) h in
    let read = shape.0 in
    let judged = judging_is (marks_judged p code i.at 0 read.0) _ (x, j) shape.2 in
    let full = judging_is (frames_in_full p code first i.at i.rest) _ (x, j) judged.2 in
    let decoded_is = judging_is (placed i.at (decoded (entries first) i.rest)) (each_of (frame p code first i.at)) full.0 full.1 in
    let fs = decoded_is.0 in
    let has : HasMarks (length (entries first)) i.rest read.0 read.1 = marks_found (length (entries first)) i.rest (well read) fits (placed_is i.at (marked (length (entries first)) i.rest) read shape.1) in
    let expands : expanded 0 (entries first) has.written ≡ well fs =
    sym (stands_decoded (entries first) i.rest has.text has.rest has.written has.table_is has.spelled) ∙ placed_is i.at (decoded (entries first) i.rest) fs decoded_is.1 in
    let same = answer_is full.0 x (from (i.at + read.1) (drop read.1 i.rest)) j full.2 in
    let are = are_frames p code first fs full.0 ((frames_judge p code first i.at fs).is full.0 decoded_is.2) in
    let rest : drop read.1 i.rest ≡ has.rest = ap (drop read.1) has.spelled ∙ drop_at has.text has.rest read.1 (sym has.taken_is) in
    record {
      text = has.text;
      stands = subst (λ (z : Frames). AreFrames p code first has.text z) same.0 (record { written = has.written; in_full = fs; table_is = has.table_is; expanded_are = expands; frames_are = are });
      parts = has.spelled ∙ ap (λ (z : List ℕ). has.text ++ z) (sym rest ∙ ap (λ (k : In). k.rest) same.1);
      moved = ap (λ (k : In). k.at) (sym same.1) ∙ ap (λ (n : ℕ). i.at + n) has.taken_is;
    }

frames_again : (p : Pool) (code : Code) (first : List VType) (at : ℕ) (text rest : List ℕ) (x : Frames) → AreFrames p code first text x → frames p code first (from at (text ++ rest)) ≡ answer x (from (at + length text) rest)
unfolding frames frames_in_full marked
frames_again p code first at text rest x h =
    let bytes = text ++ rest in
    let table = (table_exact (length (entries first))).again 0 text rest h.written h.table_is in
    let k = known p code first h.in_full x (expanded_small 0 (entries first) h.written h.in_full h.expanded_are) h.frames_are in
    let named = frames_judged (Named p code) 0 0 (entries first) h.written h.in_full (λ delta. tt) h.expanded_are k.named in
    let starts : All (Starts code) (offsets_from 0 (table_marks 0 h.written)) = subst (λ (z : List ℕ). All (Starts code) z) (sym (offsets_are 0 0 (entries first) h.written h.in_full h.expanded_are)) k.starts in
    let judged = marks_pass p code at 0 (table_marks 0 h.written) named starts in
    let decoded_is = stands_decoded (entries first) bytes text rest h.written h.table_is refl ∙ h.expanded_are in
    let full = (frames_judge p code first at h.in_full).again x k.small in
    rw (table, judged, decoded_is, full, zero-add, drop_at text rest (length text) refl) refl

pub frames_exact : (p : Pool) (code : Code) (first : List VType) → Exact (AreFrames p code first) (frames p code first)
frames_exact p code first = record { takes = frames_take p code first; again = frames_again p code first }
