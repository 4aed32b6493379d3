-- A loop that puts each frame, with the least offset that the one before it leaves.
use Rattle.std.proofs.Common.{◌≡◌, ◌∙◌, ℕ, ◌+◌, ◌<◌, ◌≤◌, List, [], ◌∷◌, length, get_or, map, drop, length-drop, Result, Err, refl, sym, ap, subst, arith}
use Rattle.std.specs.Prelude.{zip, IsErrAnd}
use Rattle.std.proofs.lemmas.List.{at_drop_more, nil_from_length}
use Rattle.class_model.specs.declared.class.Frame.{Frame}
use Rattle.class_limits.specs.Sizes.{CodeLayout, offset_at}
use Rattle.const_pool.specs.declared.editor.PoolStop.{PoolStop}
use Rattle.const_pool.specs.Pool.{Pool}
use Rattle.pool_names.specs.Adding.{spell_each, behind, PutsBy, Unfit}
use Rattle.pool_names.proofs.Lists.{written, each_goes_on, each_stops, each_is_done}
use Rattle.code_spelling.specs.Frames.{spell_frame, behind_row, placed_rows}
use Rattle.code_spelling.specs.Writable.{Ordered}

-- frames, the first with this least offset
abbrev Placed : CodeLayout → ℕ → List (ℕ × Frame) → List (ℕ × (ℕ × Frame))
Placed layout next rows = zip (next ∷ map (behind_row layout) rows) rows

-- what is left to put gives, behind the bytes so far, what the whole gives behind those before
pub record Left (layout : CodeLayout) (rows : List (ℕ × Frame)) (i next : ℕ) (p : Pool) (bytes : List ℕ) (total : Result (Pool × List ℕ) Unfit) : Type 0 where
  pub spelled : behind bytes (spell_each (spell_frame layout) (Placed layout next (drop i rows)) p) ≡ total
  pub ordered : Ordered layout next (drop i rows)

-- the frame of a turn
pub record Turn (rows : List (ℕ × Frame)) (i : ℕ) (row : ℕ × Frame) : Type 0 where
  pub within : i < length rows
  pub is : row ≡ get_or rows i row

here : (rows : List (ℕ × Frame)) (i : ℕ) (row : ℕ × Frame) → Turn rows i row → drop i rows ≡ row ∷ drop (i + 1) rows
here rows i row turn = at_drop_more (λ xs. xs) rows i row turn.within ∙ ap (λ (x : ℕ × Frame). x ∷ drop (i + 1) rows) (sym turn.is)

now : (layout : CodeLayout) (rows : List (ℕ × Frame)) (i next : ℕ) (row : ℕ × Frame) (p : Pool) (old : List ℕ) (total : Result (Pool × List ℕ) Unfit) → Turn rows i row → Left layout rows i next p old total
    → (behind old (spell_each (spell_frame layout) (Placed layout next (row ∷ drop (i + 1) rows)) p) ≡ total) × Ordered layout next (row ∷ drop (i + 1) rows)
now layout rows i next row p old total turn left = (
  subst (λ (xs : List (ℕ × Frame)). behind old (spell_each (spell_frame layout) (Placed layout next xs) p) ≡ total) (here rows i row turn) left.spelled,
  subst (λ (xs : List (ℕ × Frame)). Ordered layout next xs) (here rows i row turn) left.ordered,
)

pub frames_begin : (layout : CodeLayout) (rows : List (ℕ × Frame)) (p : Pool) (bytes : List ℕ) → Ordered layout 0 rows → Left layout rows 0 0 p bytes (behind bytes (spell_each (spell_frame layout) (placed_rows layout rows) p))
frames_begin layout rows p bytes ordered = record { spelled = refl; ordered = ordered }

pub frames_go_on : (layout : CodeLayout) (rows : List (ℕ × Frame)) (i next after : ℕ) (row : ℕ × Frame) (p q : Pool) (old mid : List ℕ) (total : Result (Pool × List ℕ) Unfit) → Turn rows i row → after ≡ behind_row layout row
    → behind old (spell_frame layout (next, row) p) ≡ written q mid → Left layout rows i next p old total → Left layout rows (i + 1) after q mid total
frames_go_on layout rows i next after row p q old mid total turn is one left =
    let h = now layout rows i next row p old total turn left in
    subst (λ (n : ℕ). Left layout rows (i + 1) n q mid total) (sym is) (record {
      spelled = each_goes_on (spell_frame layout) (Placed layout next (row ∷ drop (i + 1) rows)) 0 (next, row) p q old mid total (omega arith) refl one h.0;
      ordered = h.1.1;
    })

pub frames_stop : {B : Type 0} (stop : PoolStop) (result : Result B PoolStop) (layout : CodeLayout) (rows : List (ℕ × Frame)) (i next : ℕ) (row : ℕ × Frame) (p q : Pool) (old bytes : List ℕ) (total : Result (Pool × List ℕ) Unfit) → Turn rows i row
    → PutsBy (λ (x : B). bytes) (Err stop) q (behind old (spell_frame layout (next, row) p)) → Left layout rows i next p old total → IsErrAnd result (λ e. e ≡ stop) → PutsBy (λ (x : B). bytes) result q total
frames_stop stop result layout rows i next row p q old bytes total turn one left stops =
    let h = now layout rows i next row p old total turn left in
    each_stops (spell_frame layout) stop result (Placed layout next (row ∷ drop (i + 1) rows)) 0 (next, row) p q old bytes total (omega arith) refl one h.0 stops

pub frames_are_done : (layout : CodeLayout) (rows : List (ℕ × Frame)) (i next : ℕ) (p : Pool) (old : List ℕ) (total : Result (Pool × List ℕ) Unfit) → length rows ≤ i → Left layout rows i next p old total → total ≡ written p old
frames_are_done layout rows i next p old total le left =
    let none : drop i rows ≡ [] = nil_from_length (drop i rows) (omega (arith, length-drop i rows)) in
    let last = subst (λ (xs : List (ℕ × Frame)). behind old (spell_each (spell_frame layout) (Placed layout next xs) p) ≡ total) none left.spelled in
    each_is_done (spell_frame layout) [] 0 p old total (omega arith) last
