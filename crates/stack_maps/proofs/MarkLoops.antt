-- The marks of things one after the other.
use Rattle.std.proofs.Common.{◌≡◌, ℕ, ◌+◌, ◌<◌, ◌≤◌, List, [], ◌∷◌, ◌++◌, length, get_or, drop, drop-cons, add-one, length-drop, sym, ap, ◌∙◌, append_assoc, arith, suc}
use Rattle.std.proofs.lemmas.List.{append-nil, nil_from_length}
use Rattle.stack_maps.specs.declared.frame.RawType.{RawType}
use Rattle.stack_maps.specs.declared.marks.FrameMark.{FrameMark}
use Rattle.stack_maps.specs.declared.written.Written.{Written}
use Rattle.stack_maps.specs.Marks.{size_of, mark_of, marks_at, type_marks, frame_marks, table_marks}

-- a list from a place on
pub from_place : {X : Type 0} (xs : List X) (i : ℕ) (x : X) → i < length xs → x ≡ get_or xs i x → drop i xs ≡ x ∷ drop (i + 1) xs
from_place xs i x lt is = rw (add-one, drop-cons xs i x lt) (ap (λ (y : _). y ∷ drop (suc i) xs) (sym is))

pub past_end : {X : Type 0} (xs : List X) (i : ℕ) → length xs ≤ i → drop i xs ≡ []
past_end xs i le = nil_from_length (drop i xs) (omega (arith, length-drop i xs))

pub types_go_on : (frame place i : ℕ) (t : RawType) (ts : List RawType) (marks total : List FrameMark) → i < length ts → t ≡ get_or ts i t → marks ++ type_marks frame place (drop i ts) ≡ total
    → (marks ++ marks_at frame (place + 1) (mark_of t)) ++ type_marks frame (place + size_of t) (drop (i + 1) ts) ≡ total
types_go_on frame place i t ts marks total lt is so_far =
    let one : marks ++ type_marks frame place (drop i ts) ≡ marks ++ (marks_at frame (place + 1) (mark_of t) ++ type_marks frame (place + size_of t) (drop (i + 1) ts)) = ap (λ (z : List RawType). marks ++ type_marks frame place z) (from_place ts i t lt is) in
    append_assoc marks (marks_at frame (place + 1) (mark_of t)) (type_marks frame (place + size_of t) (drop (i + 1) ts)) ∙ sym one ∙ so_far

pub types_are_done : (frame place i : ℕ) (ts : List RawType) (marks total : List FrameMark) → length ts ≤ i → marks ++ type_marks frame place (drop i ts) ≡ total → marks ≡ total
types_are_done frame place i ts marks total le so_far = sym (append-nil marks) ∙ ap (λ (z : List RawType). marks ++ type_marks frame place z) (sym (past_end ts i le)) ∙ so_far

pub frames_go_on : (i : ℕ) (w : Written) (ws : List Written) (marks total : List FrameMark) → i < length ws → w ≡ get_or ws i w → marks ++ table_marks i (drop i ws) ≡ total
    → (marks ++ frame_marks i w) ++ table_marks (i + 1) (drop (i + 1) ws) ≡ total
unfolding table_marks
frames_go_on i w ws marks total lt is so_far =
    let one : marks ++ table_marks i (drop i ws) ≡ marks ++ (frame_marks i w ++ table_marks (i + 1) (drop (i + 1) ws)) = ap (λ (z : List Written). marks ++ table_marks i z) (from_place ws i w lt is) in
    append_assoc marks (frame_marks i w) (table_marks (i + 1) (drop (i + 1) ws)) ∙ sym one ∙ so_far

pub frames_are_done : (i : ℕ) (ws : List Written) (marks total : List FrameMark) → length ws ≤ i → marks ++ table_marks i (drop i ws) ≡ total → marks ≡ total
unfolding table_marks
frames_are_done i ws marks total le so_far = sym (append-nil marks) ∙ ap (λ (z : List Written). marks ++ table_marks i z) (sym (past_end ws i le)) ∙ so_far
