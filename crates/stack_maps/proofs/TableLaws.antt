-- What is answered for bytes is what the table that they begin with stands for.
use Rattle.std.proofs.Common.{◌≡◌, ℕ, List, ◌++◌, length, Result, Ok, Err, refl, sym, ap, subst, ◌∙◌, zero-add, IfOk}
use Rattle.class_input.specs.Grammar.{IsBytes}
use Rattle.class_input.proofs.Laws.{from}
use Rattle.stack_maps.specs.declared.frame.RawType.{RawType}
use Rattle.stack_maps.specs.declared.frame.RawFrame.{RawFrame}
use Rattle.stack_maps.specs.declared.frame_stop.FrameStop.{FrameStop}
use Rattle.stack_maps.specs.declared.marks.FrameMark.{FrameMark}
use Rattle.stack_maps.specs.declared.written.Written.{Written}
use Rattle.stack_maps.specs.Grammar.{IsTable}
use Rattle.stack_maps.specs.Expand.{judging, expanded}
use Rattle.stack_maps.specs.Marks.{table_marks}
use Rattle.stack_maps.specs.Reading.{table, from_start, decoded, marked, Answers}
use Rattle.stack_maps.specs.Table.{StandsFor, HasMarks}
use Rattle.stack_maps.proofs.Loops.{answer}
use Rattle.stack_maps.proofs.ExpandLoops.{well}
use Rattle.stack_maps.proofs.FrameLaws.{table_exact}

pub judging_ok : {A B : Type 0} (r : Result A FrameStop) (f : A → Result B FrameStop) (y : B) → judging r f ≡ well y → (x : A) × (r ≡ well x) × (f x ≡ well y)
judging_ok (Ok x) f y h = (x, refl, h)
judging_ok (Err e) f y h = absurd cc

pub well_is : {A : Type 0} (x y : A) → well x ≡ well y → x ≡ y
well_is x y h = cc

decoded_stands : (first : List RawType) (bytes : List ℕ) (frames : List RawFrame) → IsBytes bytes → decoded first bytes ≡ well frames → StandsFor first bytes frames
unfolding decoded
decoded_stands first bytes frames fits h =
    let b = judging_ok (table (length first) (from_start bytes)) (λ read. expanded 0 first read.0) frames h in
    let t = (table_exact (length first)).takes (from_start bytes) b.0.0 b.0.1 fits b.1 in
    record { text = t.text; rest = b.0.1.rest; written = b.0.0; spelled = t.parts; table_is = t.stands; frames_are = b.2 }

read_table : (known : ℕ) (bytes text rest : List ℕ) (written : List Written) → IsTable known 0 text written → bytes ≡ text ++ rest → table known (from_start bytes) ≡ answer written (from (length text) rest)
read_table known bytes text rest written is parts =
    ap (λ (z : List ℕ). table known (from_start z)) parts ∙ (table_exact known).again 0 text rest written is ∙ ap (λ (k : ℕ). answer written (from k rest)) (zero-add (length text))

pub stands_decoded : (first : List RawType) (bytes text rest : List ℕ) (written : List Written) → IsTable (length first) 0 text written → bytes ≡ text ++ rest → decoded first bytes ≡ expanded 0 first written
unfolding decoded
stands_decoded first bytes text rest written is parts = rw (read_table (length first) bytes text rest written is parts) refl

marked_stands : (known : ℕ) (bytes : List ℕ) (marks : List FrameMark) (taken : ℕ) → IsBytes bytes → marked known bytes ≡ well (marks, taken) → HasMarks known bytes marks taken
unfolding marked
marked_stands known bytes marks taken fits h =
    let b = judging_ok (table known (from_start bytes)) (λ read. well (table_marks 0 read.0, read.1.at)) (marks, taken) h in
    let t = (table_exact known).takes (from_start bytes) b.0.0 b.0.1 fits b.1 in
    let same = well_is (table_marks 0 b.0.0, b.0.1.at) (marks, taken) b.2 in
    record { text = t.text; rest = b.0.1.rest; written = b.0.0; spelled = t.parts; taken_is = ap (λ (p : List FrameMark × ℕ). p.1) (sym same) ∙ t.moved ∙ zero-add (length t.text); table_is = t.stands; marks_are = ap (λ (p : List FrameMark × ℕ). p.0) (sym same) }

stands_marked : (known : ℕ) (bytes text rest : List ℕ) (written : List Written) → IsTable known 0 text written → bytes ≡ text ++ rest → marked known bytes ≡ well (table_marks 0 written, length text)
unfolding marked
stands_marked known bytes text rest written is parts = rw (read_table known bytes text rest written is parts) refl

-- ---- what is answered as it is read

pub frames_found : (first : List RawType) (bytes : List ℕ) (r : Result (List RawFrame) FrameStop) → IsBytes bytes → Answers r (decoded first bytes) → IfOk r (λ frames. StandsFor first bytes frames)
frames_found first bytes (Ok frames) fits h = decoded_stands first bytes frames fits h
frames_found first bytes (Err e) fits h = tt

pub frames_only : (first : List RawType) (bytes text rest : List ℕ) (written : List Written) (r : Result (List RawFrame) FrameStop) → IsTable (length first) 0 text written → bytes ≡ text ++ rest → Answers r (decoded first bytes) → Answers r (expanded 0 first written)
frames_only first bytes text rest written r is parts h = subst (λ (z : Result (List RawFrame) FrameStop). Answers r z) (stands_decoded first bytes text rest written is parts) h

pub marks_found : (known : ℕ) (bytes : List ℕ) (r : Result (List FrameMark × ℕ) FrameStop) → IsBytes bytes → Answers r (marked known bytes) → IfOk r (λ read. HasMarks known bytes read.0 read.1)
marks_found known bytes (Ok read) fits h = marked_stands known bytes read.0 read.1 fits h
marks_found known bytes (Err e) fits h = tt

pub marks_only : (known : ℕ) (bytes text rest : List ℕ) (written : List Written) (r : Result (List FrameMark × ℕ) FrameStop) → IsTable known 0 text written → bytes ≡ text ++ rest → Answers r (marked known bytes) → Answers r (well (table_marks 0 written, length text))
marks_only known bytes text rest written r is parts h = subst (λ (z : Result (List FrameMark × ℕ) FrameStop). Answers r z) (stands_marked known bytes text rest written is parts) h
