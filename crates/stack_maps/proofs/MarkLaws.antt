-- What is judged of the marks of a table is judged of the frames that it stands for.
use Rattle.std.proofs.Common.{◌≡◌, ℕ, ◌+◌, ◌-◌, ◌≤◌, Bool, true, false, cond, ltb, List, [], ◌∷◌, ◌++◌, length, map, All, Option, Some, None, Result, Ok, Err, refl, sym, ap, subst, ◌∙◌, append_assoc}
use Rattle.std.proofs.lemmas.Bool.{le-ltb}
use Rattle.std.proofs.lemmas.List.{take_at, drop_at}
use Rattle.std.proofs.lemmas.List.Elements.{All-nil, All-cons, All-head, All-tail, All-append, All-take, All-drop}
use Rattle.stack_maps.specs.declared.frame.RawType.{RawType}
use Rattle.stack_maps.specs.declared.frame.RawType.TheVariants as raw
use Rattle.stack_maps.specs.declared.frame.RawFrame.{RawFrame}
use Rattle.stack_maps.specs.declared.frame_stop.FrameStop.{FrameStop}
use Rattle.stack_maps.specs.declared.frame_stop.FrameStop.TheVariants.{Offset}
use Rattle.stack_maps.specs.declared.marks.Mark.{Mark}
use Rattle.stack_maps.specs.declared.marks.Mark.TheVariants.{Delta, Object, Uninit}
use Rattle.stack_maps.specs.declared.marks.FrameMark.{FrameMark}
use Rattle.stack_maps.specs.declared.written.Locals.{Locals}
use Rattle.stack_maps.specs.declared.written.Locals.TheVariants.{Kept, Chop, Append, Full}
use Rattle.stack_maps.specs.declared.written.Written.{Written}
use Rattle.stack_maps.specs.Expand.{locals_after, offset_of, in_full, in_front, expanded}
use Rattle.stack_maps.specs.Marks.{size_of, mark_of, marks_at, type_marks, locals_marks, frame_marks, table_marks}
use Rattle.stack_maps.proofs.ExpandLoops.{well}
use Rattle.stack_maps.proofs.TableLaws.{judging_ok, well_is}

-- ---- a fact of marks as one of types and of frames

abbrev pub OfMark : (Mark → Type 0) → Option Mark → Type 0
OfMark P None = Unit {0}
OfMark P (Some mark) = P mark

abbrev pub OfType : (Mark → Type 0) → RawType → Type 0
OfType P t = OfMark P (mark_of t)

abbrev pub OfPlaced : (Mark → Type 0) → FrameMark → Type 0
OfPlaced P m = P m.mark

pub record OfFrame (P : Mark → Type 0) (frame : RawFrame) : Type 0 where
  pub locals : All (OfType P) frame.locals
  pub stack : All (OfType P) frame.stack

all_front : {X : Type 0} (P : X → Type 0) (xs ys : List X) → All P (xs ++ ys) → All P xs
all_front {X} P xs ys h = subst (λ (z : List X). All P z) (take_at xs ys (length xs) refl) (All-take P (length xs) (xs ++ ys) h)

all_back : {X : Type 0} (P : X → Type 0) (xs ys : List X) → All P (xs ++ ys) → All P ys
all_back {X} P xs ys h = subst (λ (z : List X). All P z) (drop_at xs ys (length xs) refl) (All-drop P (length xs) (xs ++ ys) h)

mark_to : (P : Mark → Type 0) (frame place : ℕ) (o : Option Mark) → All (OfPlaced P) (marks_at frame place o) → OfMark P o
mark_to P frame place None h = tt
mark_to P frame place (Some mark) h = All-head (OfPlaced P) (record { frame = frame; place = place; mark = mark }) [] h

mark_from : (P : Mark → Type 0) (frame place : ℕ) (o : Option Mark) → OfMark P o → All (OfPlaced P) (marks_at frame place o)
mark_from P frame place None h = All-nil (OfPlaced P)
mark_from P frame place (Some mark) h = All-cons (OfPlaced P) (record { frame = frame; place = place; mark = mark }) [] h (All-nil (OfPlaced P))

types_to : (P : Mark → Type 0) (frame at : ℕ) (ts : List RawType) → All (OfPlaced P) (type_marks frame at ts) → All (OfType P) ts
types_to P frame at [] h = All-nil (OfType P)
types_to P frame at (t ∷ ts) h =
    let first = marks_at frame (at + 1) (mark_of t) in
    let others = type_marks frame (at + size_of t) ts in
    All-cons (OfType P) t ts (mark_to P frame (at + 1) (mark_of t) (all_front (OfPlaced P) first others h)) (types_to P frame (at + size_of t) ts (all_back (OfPlaced P) first others h))

types_from : (P : Mark → Type 0) (frame at : ℕ) (ts : List RawType) → All (OfType P) ts → All (OfPlaced P) (type_marks frame at ts)
types_from P frame at [] h = All-nil (OfPlaced P)
types_from P frame at (t ∷ ts) h =
    let first = marks_at frame (at + 1) (mark_of t) in
    let others = type_marks frame (at + size_of t) ts in
    All-append (OfPlaced P) first others (mark_from P frame (at + 1) (mark_of t) (All-head (OfType P) t ts h)) (types_from P frame (at + size_of t) ts (All-tail (OfType P) t ts h))

locals_to : (P : Mark → Type 0) (frame : ℕ) (before : List RawType) (ls : Locals) → All (OfType P) before → All (OfPlaced P) (locals_marks frame ls) → All (OfType P) (locals_after before ls)
locals_to P frame before Kept b h = b
locals_to P frame before (Chop gone) b h = All-take (OfType P) (length before - gone) before b
locals_to P frame before (Append more) b h = All-append (OfType P) before more.types b (types_to P frame more.at more.types h)
locals_to P frame before (Full all) b h = types_to P frame all.at all.types h

locals_from : (P : Mark → Type 0) (frame : ℕ) (before : List RawType) (ls : Locals) → All (OfType P) (locals_after before ls) → All (OfPlaced P) (locals_marks frame ls)
locals_from P frame before Kept h = All-nil (OfPlaced P)
locals_from P frame before (Chop gone) h = All-nil (OfPlaced P)
locals_from P frame before (Append more) h = types_from P frame more.at more.types (all_back (OfType P) before more.types h)
locals_from P frame before (Full all) h = types_from P frame all.at all.types h

-- ---- frames that were expanded

abbrev full_of : List RawType → Written → ℕ → RawFrame
full_of before w offset = record { offset = offset; locals = locals_after before w.locals; stack = w.stack.types }

kept : {A : Type 0} (b : Bool) (e : FrameStop) (x y : A) → cond b (Err e) (well x) ≡ well y → x ≡ y
kept true e x y h = absurd cc
kept false e x y h = well_is x y h

-- what was expanded: the first frame, and the others behind it
pub record Expands (next : ℕ) (before : List RawType) (w : Written) (ws : List Written) (frames : List RawFrame) : Type 0 where
  pub others : List RawFrame
  pub frames_are : full_of before w (next + w.delta) ∷ others ≡ frames
  pub others_are : expanded (next + w.delta + 1) (locals_after before w.locals) ws ≡ well others

in_front_is : (f : RawFrame) (r : Result (List RawFrame) FrameStop) (frames : List RawFrame) → in_front (f ∷ []) r ≡ well frames → (others : List RawFrame) × (r ≡ well others) × (f ∷ others ≡ frames)
in_front_is f (Ok others) frames h = (others, refl, well_is (f ∷ others) frames h)
in_front_is f (Err e) frames h = absurd cc

first_is : (next : ℕ) (before : List RawType) (w : Written) (f : RawFrame) → in_full next before w ≡ well f → full_of before w (next + w.delta) ≡ f
unfolding in_full
first_is next before w f h =
    let b = judging_ok (offset_of next w) (λ offset. well (full_of before w offset)) f h in
    let sum : next + w.delta ≡ b.0 = kept (ltb 65535 (next + w.delta)) (Offset w.delta_at) (next + w.delta) b.0 b.1 in
    ap (full_of before w) sum ∙ well_is (full_of before w b.0) f b.2

pub expands_is : (next : ℕ) (before : List RawType) (w : Written) (ws : List Written) (frames : List RawFrame) → expanded next before (w ∷ ws) ≡ well frames → Expands next before w ws frames
unfolding expanded
expands_is next before w ws frames h =
    let b = judging_ok (in_full next before w) (λ full. in_front (full ∷ []) (expanded (full.offset + 1) full.locals ws)) frames h in
    let c = in_front_is b.0 (expanded (b.0.offset + 1) b.0.locals ws) frames b.2 in
    let f : full_of before w (next + w.delta) ≡ b.0 = first_is next before w b.0 b.1 in
    record {
      others = c.0;
      frames_are = ap (λ (z : RawFrame). z ∷ c.0) f ∙ c.2;
      others_are = ap (λ (z : RawFrame). expanded (z.offset + 1) z.locals ws) f ∙ c.1;
    }

-- What holds of each mark, and of the types of the first frame, holds of each type of each frame.
pub marks_judged : (P : Mark → Type 0) (number next : ℕ) (before : List RawType) (ws : List Written) (frames : List RawFrame) → All (OfType P) before → All (OfPlaced P) (table_marks number ws) → expanded next before ws ≡ well frames → All (OfFrame P) frames
unfolding expanded table_marks
marks_judged P number next before [] frames b h e = subst (λ (z : List RawFrame). All (OfFrame P) z) (well_is [] frames e) (All-nil (OfFrame P))
marks_judged P number next before (w ∷ ws) frames b h e =
    let x = expands_is next before w ws frames e in
    let delta = marks_at number w.delta_at (Some (Delta w.delta)) in
    let locals = locals_marks number w.locals in
    let stack = type_marks number w.stack.at w.stack.types in
    let types = all_back (OfPlaced P) delta (locals ++ stack) (all_front (OfPlaced P) (frame_marks number w) (table_marks (number + 1) ws) h) in
    let all_locals = locals_to P number before w.locals b (all_front (OfPlaced P) locals stack types) in
    let all_stack = types_to P number w.stack.at w.stack.types (all_back (OfPlaced P) locals stack types) in
    let more = marks_judged P (number + 1) (next + w.delta + 1) (locals_after before w.locals) ws x.others all_locals (all_back (OfPlaced P) (frame_marks number w) (table_marks (number + 1) ws) h) x.others_are in
    subst (λ (z : List RawFrame). All (OfFrame P) z) x.frames_are (All-cons (OfFrame P) (full_of before w (next + w.delta)) x.others (record { locals = all_locals; stack = all_stack }) more)

-- And the other way round, deltas aside.
pub frames_judged : (P : Mark → Type 0) (number next : ℕ) (before : List RawType) (ws : List Written) (frames : List RawFrame) → ((delta : ℕ) → P (Delta delta)) → expanded next before ws ≡ well frames → All (OfFrame P) frames → All (OfPlaced P) (table_marks number ws)
unfolding expanded table_marks
frames_judged P number next before [] frames d e h = All-nil (OfPlaced P)
frames_judged P number next before (w ∷ ws) frames d e h =
    let x = expands_is next before w ws frames e in
    let full = full_of before w (next + w.delta) in
    let all : All (OfFrame P) (full ∷ x.others) = subst (λ (z : List RawFrame). All (OfFrame P) z) (sym x.frames_are) h in
    let one : OfFrame P full = All-head (OfFrame P) full x.others all in
    let delta = mark_from P number w.delta_at (Some (Delta w.delta)) (d w.delta) in
    let locals = locals_from P number before w.locals one.locals in
    let stack = types_from P number w.stack.at w.stack.types one.stack in
    let more = frames_judged P (number + 1) (next + w.delta + 1) (locals_after before w.locals) ws x.others d x.others_are (All-tail (OfFrame P) full x.others all) in
    let types = All-append (OfPlaced P) (locals_marks number w.locals) (type_marks number w.stack.at w.stack.types) locals stack in
    let first = All-append (OfPlaced P) (marks_at number w.delta_at (Some (Delta w.delta))) (locals_marks number w.locals ++ type_marks number w.stack.at w.stack.types) delta types in
    All-append (OfPlaced P) (frame_marks number w) (table_marks (number + 1) ws) first more

-- ---- the offsets of frames, from the deltas among marks

-- where a mark brings the offset
abbrev pub offset_then : ℕ → Mark → (ℕ → List ℕ) → List ℕ
offset_then next (Delta delta) others = (next + delta) ∷ others (next + delta + 1)
offset_then next (Object k) others = others next
offset_then next (Uninit k) others = others next

-- the offsets to which the deltas bring, one after the other; the first is at least `next`
abbrev pub offsets_from : ℕ → List FrameMark → List ℕ
offsets_from next [] = []
offsets_from next (m ∷ ms) = offset_then next m.mark (λ n. offsets_from n ms)

past_types : (next frame at : ℕ) (ts : List RawType) (ms : List FrameMark) → offsets_from next (type_marks frame at ts ++ ms) ≡ offsets_from next ms
past_types next frame at [] ms = refl
past_types next frame at (raw.Top ∷ ts) ms = past_types next frame (at + 1) ts ms
past_types next frame at (raw.Int ∷ ts) ms = past_types next frame (at + 1) ts ms
past_types next frame at (raw.Long ∷ ts) ms = past_types next frame (at + 1) ts ms
past_types next frame at (raw.Null ∷ ts) ms = past_types next frame (at + 1) ts ms
past_types next frame at (raw.UninitThis ∷ ts) ms = past_types next frame (at + 1) ts ms
past_types next frame at (raw.Object k ∷ ts) ms = past_types next frame (at + 3) ts ms
past_types next frame at (raw.Uninit k ∷ ts) ms = past_types next frame (at + 3) ts ms
past_types next frame at (raw.First k ∷ ts) ms = past_types next frame (at + 1) ts ms

past_locals : (next frame : ℕ) (ls : Locals) (ms : List FrameMark) → offsets_from next (locals_marks frame ls ++ ms) ≡ offsets_from next ms
past_locals next frame Kept ms = refl
past_locals next frame (Chop gone) ms = refl
past_locals next frame (Append more) ms = past_types next frame more.at more.types ms
past_locals next frame (Full all) ms = past_types next frame all.at all.types ms

past_frame : (next number : ℕ) (w : Written) (ms : List FrameMark) → offsets_from next (frame_marks number w ++ ms) ≡ (next + w.delta) ∷ offsets_from (next + w.delta + 1) ms
past_frame next number w ms =
    let then_ = next + w.delta + 1 in
    let locals = locals_marks number w.locals in
    let stack = type_marks number w.stack.at w.stack.types in
    let past : offsets_from then_ ((locals ++ stack) ++ ms) ≡ offsets_from then_ ms =
    ap (offsets_from then_) (append_assoc locals stack ms) ∙ past_locals then_ number w.locals (stack ++ ms) ∙ past_types then_ number w.stack.at w.stack.types ms in
    ap (λ (z : List ℕ). (next + w.delta) ∷ z) past

-- The offsets of the frames are those to which the deltas bring.
pub offsets_are : (number next : ℕ) (before : List RawType) (ws : List Written) (frames : List RawFrame) → expanded next before ws ≡ well frames → offsets_from next (table_marks number ws) ≡ map (λ f. f.offset) frames
unfolding expanded table_marks
offsets_are number next before [] frames e = ap (map (λ (f : RawFrame). f.offset)) (well_is [] frames e)
offsets_are number next before (w ∷ ws) frames e =
    let x = expands_is next before w ws frames e in
    let more = offsets_are (number + 1) (next + w.delta + 1) (locals_after before w.locals) ws x.others x.others_are in
    past_frame next number w (table_marks (number + 1) ws) ∙ ap (λ (z : List ℕ). (next + w.delta) ∷ z) more ∙ ap (map (λ (f : RawFrame). f.offset)) x.frames_are

-- Where none of these passes 65,535, the frames are expanded.
pub offsets_expand : (number next : ℕ) (before : List RawType) (ws : List Written) → All (λ o. o ≤ 65535) (offsets_from next (table_marks number ws)) → (frames : List RawFrame) × (expanded next before ws ≡ well frames)
unfolding expanded in_full table_marks
offsets_expand number next before [] h = ([], refl)
offsets_expand number next before (w ∷ ws) h =
    let o = next + w.delta in
    let all : All (λ o. o ≤ 65535) (o ∷ offsets_from (o + 1) (table_marks (number + 1) ws)) = subst (λ (z : List ℕ). All (λ o. o ≤ 65535) z) (past_frame next number w (table_marks (number + 1) ws)) h in
    let small : ltb 65535 o ≡ false = le-ltb 65535 o (All-head (λ o. o ≤ 65535) o (offsets_from (o + 1) (table_marks (number + 1) ws)) all) in
    let more = offsets_expand (number + 1) (o + 1) (locals_after before w.locals) ws (All-tail (λ o. o ≤ 65535) o (offsets_from (o + 1) (table_marks (number + 1) ws)) all) in
    (full_of before w o ∷ more.0, rw (small, more.1) refl)
