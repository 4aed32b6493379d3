-- Frames are expanded one after the other.
use Rattle.std.proofs.Common.{◌≡◌, ℕ, suc, Some, arith, ◌+◌, ◌-◌, ◌<◌, ◌≤◌, List, [], ◌∷◌, ◌++◌, length, get_or, drop, Result, Ok, Err, refl, sym, ap, ◌∙◌, append_assoc}
use Rattle.std.specs.List.{slice_get}
use Rattle.std.proofs.lemmas.List.{append-nil}
use Rattle.std.proofs.lemmas.Option.{slice_get_within, get_or_from_slice_get}
use Rattle.stack_maps.specs.declared.frame.RawType.{RawType}
use Rattle.stack_maps.specs.declared.frame.RawFrame.{RawFrame}
use Rattle.stack_maps.specs.declared.frame_stop.FrameStop.{FrameStop}
use Rattle.stack_maps.specs.declared.frame_stop.FrameStop.TheVariants.{Memory}
use Rattle.stack_maps.specs.declared.written.Written.{Written}
use Rattle.stack_maps.specs.Expand.{in_full, in_front, expanded, last_locals}
use Rattle.stack_maps.specs.Reading.{Fails}
use Rattle.stack_maps.proofs.MarkLoops.{from_place, past_end}

abbrev pub well : {A : Type 0} → A → Result A FrameStop
well x = Ok x

pub expand_begins : (r : Result (List RawFrame) FrameStop) → in_front [] r ≡ r
expand_begins (Ok fs) = refl
expand_begins (Err e) = refl

last_is : (first : List RawType) (fs : List RawFrame) (f : RawFrame) → last_locals first (fs ++ f ∷ []) ≡ f.locals
last_is first [] f = refl
last_is first (g ∷ fs) f = last_is g.locals fs f

last_in : (first : List RawType) (fs : List RawFrame) (f : RawFrame) → 0 < length fs → get_or fs (length fs - 1) f ≡ f → last_locals first fs ≡ f.locals
last_in first [] f some h = absurd (omega arith)
last_in first (g ∷ []) f some h = ap (λ (z : RawFrame). z.locals) h
last_in first (g ∷ k ∷ fs) f some h =
    let n : length (g ∷ k ∷ fs) - 1 ≡ suc (length (k ∷ fs) - 1) = omega arith in
    last_in g.locals (k ∷ fs) f (omega arith) (ap (λ (i : ℕ). get_or (g ∷ k ∷ fs) i f) (sym n) ∙ h)

pub last_at : (first : List RawType) (fs : List RawFrame) (f : RawFrame) → slice_get fs (length fs - 1) ≡ Some f → last_locals first fs ≡ f.locals
last_at first fs f h = let within = slice_get_within fs (length fs - 1) f h in last_in first fs f (omega arith) (get_or_from_slice_get fs (length fs - 1) f f h)

front_more : (fs : List RawFrame) (f : RawFrame) (r : Result (List RawFrame) FrameStop) → in_front fs (in_front (f ∷ []) r) ≡ in_front (fs ++ f ∷ []) r
front_more fs f (Ok gs) = ap (λ (z : List RawFrame). well z) (sym (append_assoc fs (f ∷ []) gs))
front_more fs f (Err e) = refl

pub expand_goes_on : (first : List RawType) (next i : ℕ) (w : Written) (ws : List Written) (fs : List RawFrame) (f : RawFrame) (total : Result (List RawFrame) FrameStop) → i < length ws → w ≡ get_or ws i w
    → in_full next (last_locals first fs) w ≡ well f → in_front fs (expanded next (last_locals first fs) (drop i ws)) ≡ total
    → in_front (fs ++ f ∷ []) (expanded (f.offset + 1) (last_locals first (fs ++ f ∷ [])) (drop (i + 1) ws)) ≡ total
unfolding expanded
expand_goes_on first next i w ws fs f total lt is one so_far =
    let here : in_front fs (expanded next (last_locals first fs) (drop i ws)) ≡ in_front (fs ++ f ∷ []) (expanded (f.offset + 1) f.locals (drop (i + 1) ws)) =
    rw (from_place ws i w lt is, one) (front_more fs f (expanded (f.offset + 1) f.locals (drop (i + 1) ws))) in
    ap (λ (z : List RawType). in_front (fs ++ f ∷ []) (expanded (f.offset + 1) z (drop (i + 1) ws))) (last_is first fs f) ∙ sym here ∙ so_far

pub expand_ends : (first : List RawType) (next i : ℕ) (w : Written) (ws : List Written) (fs : List RawFrame) (e : FrameStop) (total : Result (List RawFrame) FrameStop) → i < length ws → w ≡ get_or ws i w
    → Fails e (in_full next (last_locals first fs) w) → in_front fs (expanded next (last_locals first fs) (drop i ws)) ≡ total → Fails e total
unfolding expanded
expand_ends first next i w ws fs Memory total lt is one so_far = tt
expand_ends first next i w ws fs e total lt is one so_far =
    let here : in_front fs (expanded next (last_locals first fs) (drop i ws)) ≡ Err e = rw (from_place ws i w lt is, one) refl in
    sym so_far ∙ here

pub expand_is_done : (first : List RawType) (next i : ℕ) (ws : List Written) (fs : List RawFrame) (total : Result (List RawFrame) FrameStop) → length ws ≤ i
    → in_front fs (expanded next (last_locals first fs) (drop i ws)) ≡ total → total ≡ well fs
unfolding expanded
expand_is_done first next i ws fs total le so_far =
    let here : in_front fs (expanded next (last_locals first fs) (drop i ws)) ≡ well fs = rw (past_end ws i le) (ap (λ (z : List RawFrame). well z) (append-nil fs)) in
    sym so_far ∙ here
