-- Reading frames is exact for what their bytes are.
use Rattle.std.proofs.Common.{◌≡◌, inl, inr, ℕ, ◌+◌, ◌-◌, Bool, ltb, eqb, List, [], ◌∷◌, ◌++◌, length, refl, sym, ap, subst, ◌∙◌}
use Rattle.std.specs.Prelude.{MatchBool}
use Rattle.std.specs.Int.{w8, w16}
use Rattle.std.proofs.lemmas.Bool.{ltb-false, le-ltb}
use Rattle.class_input.specs.Grammar.{IsU8, IsU16}
use Rattle.stack_maps.specs.declared.frame_stop.FrameStop.TheVariants.{Reserved, Underflow}
use Rattle.stack_maps.specs.declared.written.Entries.{Entries}
use Rattle.stack_maps.specs.declared.written.Locals.{Locals}
use Rattle.stack_maps.specs.declared.written.Locals.TheVariants.{Kept, Chop, Append, Full}
use Rattle.stack_maps.specs.declared.written.Written.{Written}
use Rattle.stack_maps.specs.Grammar.{AreTypes, AreCounted, IsShort, IsExtended, IsChop, IsAppend, IsFull, IsForm, IsFrame, AreFrames, IsTable}
use Rattle.stack_maps.specs.Reading.{Reading, ◌>>=◌, done, refused, number, entries, counted, made, short, extended, chop, append, full, form, frame, known_next, frames, table}
use Rattle.stack_maps.proofs.Laws.{Exact, Exact-same, Then, Here, Anywhere, Chain, refused_exact, then_exact, mapped_exact, here_exact, if_exact, u8_exact, u16_exact, each_exact}
use Rattle.stack_maps.proofs.TypeLaws.{split, one_byte, is_byte, two_long, entries_exact, counted_exact}

made_is : (w : Written) (delta_at delta : ℕ) (locals : Locals) (stack : Entries) → w.delta_at ≡ delta_at → w.delta ≡ delta → w.locals ≡ locals → w.stack ≡ stack → made delta_at delta locals stack ≡ w
made_is w delta_at delta locals stack a b c d =
    let e : made w.delta_at w.delta w.locals w.stack ≡ made delta_at delta locals stack = cc in
    sym e

-- ---- the delta in the type byte

abbrev MadeR : (ℕ → List ℕ → Entries → Type 0) → (Entries → Written) → ℕ → List ℕ → Written → Type 0
MadeR R make at text w = (stack : Entries) × R at text stack × (make stack ≡ w)

short_exact : (place delta items : ℕ) → Exact (IsShort place delta items) (short place delta items)
unfolding short
short_exact place delta items =
    Exact-same (MadeR (AreTypes items) (made place delta Kept)) (IsShort place delta items) _
    (λ at text w h. subst (λ (z : Written). IsShort place delta items at text z) h.2 (record { delta_at = refl; delta_is = refl; locals_are = refl; stack_is = h.1 }))
    (λ at text w h. (w.stack, h.stack_is, made_is w place delta Kept w.stack h.delta_at h.delta_is h.locals_are refl))
    (mapped_exact (AreTypes items) (entries items) (made place delta Kept) (entries_exact items))

-- ---- the delta behind the type byte

abbrev ExtendedR : Locals → ℕ → ℕ → ℕ → List ℕ → Written → Type 0
ExtendedR locals items place = Then (Anywhere IsU16) (λ delta. MadeR (AreTypes items) (made place delta locals))

extended_from : (locals : Locals) (items place : ℕ) → Exact (ExtendedR locals items place) (number w16 >>= λ delta. entries items >>= λ stack. done (made place delta locals stack))
extended_from locals items place =
    then_exact (Anywhere IsU16) (λ delta. MadeR (AreTypes items) (made place delta locals)) (number w16) (λ delta. entries items >>= λ stack. done (made place delta locals stack)) u16_exact (λ delta.
    mapped_exact (AreTypes items) (entries items) (made place delta locals) (entries_exact items))

-- a place behind a delta
behind : (delta : List ℕ) (n at : ℕ) → IsU16 delta n → at + length delta ≡ at + 2
behind delta n at h = ap (λ (k : ℕ). at + k) (two_long delta n h)

extended_to : (items at : ℕ) (text : List ℕ) (w : Written) → ExtendedR Kept items at at text w → IsExtended items at text w
extended_to items at text w h =
    let made_w = h.5 in
    subst (λ (z : Written). IsExtended items at text z) made_w.2 (record {
      delta = h.1;
      stack = h.2;
      spelled = h.3;
      delta_at = refl;
      delta_is = h.4;
      locals_are = refl;
      stack_is = subst (λ (k : ℕ). AreTypes items k h.2 made_w.0) (behind h.1 h.0 at h.4) made_w.1;
    })

extended_exact : (items : ℕ) → Exact (IsExtended items) (extended items)
unfolding extended
extended_exact items =
    Exact-same (Here (ExtendedR Kept items)) (IsExtended items) _
    (extended_to items)
    (λ at text w h. (w.delta, h.delta, h.stack, h.spelled, h.delta_is, (w.stack, subst (λ (k : ℕ). AreTypes items k h.stack w.stack) (sym (behind h.delta w.delta at h.delta_is)) h.stack_is, made_is w at w.delta Kept w.stack h.delta_at refl h.locals_are refl)))
    (here_exact (ExtendedR Kept items) _ (extended_from Kept items))

-- ---- chop

abbrev ChopR : ℕ → ℕ → ℕ → List ℕ → Written → Type 0
ChopR known gone at text w = MatchBool (ltb known gone) ⊥ (Here (ExtendedR (Chop gone) 0) at text w)

chop_to : (known gone at : ℕ) (text : List ℕ) (w : Written) → ChopR known gone at text w → IsChop known gone at text w
chop_to known gone at text w h =
    elim (split (ltb known gone) h) [
      | inl a ↦ absurd a.1
      | inr a ↦
          let b = a.1 in
          let made_w = b.5 in
          subst (λ (z : Written). IsChop known gone at text z) made_w.2 (record {
            enough = ltb-false _ _ a.0;
            delta = b.1;
            stack = b.2;
            spelled = b.3;
            delta_at = refl;
            delta_is = b.4;
            locals_are = refl;
            stack_is = subst (λ (k : ℕ). AreTypes 0 k b.2 made_w.0) (behind b.1 b.0 at b.4) made_w.1;
          })
    ]

chop_from : (known gone at : ℕ) (text : List ℕ) (w : Written) → IsChop known gone at text w → ChopR known gone at text w
chop_from known gone at text w h =
    subst (λ (z : Bool). MatchBool z ⊥ (Here (ExtendedR (Chop gone) 0) at text w)) (sym (le-ltb _ _ h.enough))
    (w.delta, h.delta, h.stack, h.spelled, h.delta_is, (w.stack, subst (λ (k : ℕ). AreTypes 0 k h.stack w.stack) (sym (behind h.delta w.delta at h.delta_is)) h.stack_is, made_is w at w.delta (Chop gone) w.stack h.delta_at refl h.locals_are refl))

chop_exact : (known place gone : ℕ) → Exact (IsChop known gone) (chop known place gone)
unfolding chop
chop_exact known place gone =
    Exact-same (ChopR known gone) (IsChop known gone) _ (chop_to known gone) (chop_from known gone)
    (if_exact (ltb known gone) (λ at text w. ⊥) (Here (ExtendedR (Chop gone) 0)) (refused (Underflow place)) _ (refused_exact (λ at text w. ⊥) (Underflow place) (λ at text w h. h)) (here_exact (ExtendedR (Chop gone) 0) _ (extended_from (Chop gone) 0)))

-- ---- append and full

abbrev BothR : (ℕ → List ℕ → Entries → Type 0) → (ℕ → List ℕ → Entries → Type 0) → (Entries → Locals) → ℕ → ℕ → List ℕ → Written → Type 0
BothR L S make place = Then (Anywhere IsU16) (λ delta. Then L (λ locals. MadeR S (made place delta (make locals))))

both_from : (L S : ℕ → List ℕ → Entries → Type 0) (make : Entries → Locals) (l s : Reading Entries) → Exact L l → Exact S s → (place : ℕ) → Exact (BothR L S make place) (number w16 >>= λ delta. l >>= λ locals. s >>= λ stack. done (made place delta (make locals) stack))
both_from L S make l s p q place =
    then_exact (Anywhere IsU16) (λ delta. Then L (λ locals. MadeR S (made place delta (make locals)))) (number w16) (λ delta. l >>= λ locals. s >>= λ stack. done (made place delta (make locals) stack)) u16_exact (λ delta.
    then_exact L (λ locals. MadeR S (made place delta (make locals))) l (λ locals. s >>= λ stack. done (made place delta (make locals) stack)) p (λ locals.
    mapped_exact S s (made place delta (make locals)) q))

-- pieces one after the other
three : (text first rest second third : List ℕ) → text ≡ first ++ rest → rest ≡ second ++ third → text ≡ first ++ (second ++ third)
three text first rest second third e f = e ∙ ap (λ (z : List ℕ). first ++ z) f

append_to : (more at : ℕ) (text : List ℕ) (w : Written) → BothR (AreTypes more) (AreTypes 0) (λ e. Append e) at at text w → IsAppend more at text w
append_to more at text w h =
    let b = h.5 in
    let made_w = b.5 in
    let there = behind h.1 h.0 at h.4 in
    subst (λ (z : Written). IsAppend more at text z) made_w.2 (record {
      delta = h.1;
      locals = b.1;
      stack = b.2;
      entries = b.0;
      spelled = three text h.1 h.2 b.1 b.2 h.3 b.3;
      delta_at = refl;
      delta_is = h.4;
      locals_are = refl;
      entries_are = subst (λ (k : ℕ). AreTypes more k b.1 b.0) there b.4;
      stack_is = subst (λ (k : ℕ). AreTypes 0 (k + length b.1) b.2 made_w.0) there made_w.1;
    })

append_from : (more at : ℕ) (text : List ℕ) (w : Written) → IsAppend more at text w → BothR (AreTypes more) (AreTypes 0) (λ e. Append e) at at text w
append_from more at text w h =
    let there = sym (behind h.delta w.delta at h.delta_is) in (
      w.delta,
      h.delta,
      h.locals ++ h.stack,
      h.spelled,
      h.delta_is,
      (
        h.entries,
        h.locals,
        h.stack,
        refl,
        subst (λ (k : ℕ). AreTypes more k h.locals h.entries) there h.entries_are,
        (w.stack, subst (λ (k : ℕ). AreTypes 0 (k + length h.locals) h.stack w.stack) there h.stack_is, made_is w at w.delta (Append h.entries) w.stack h.delta_at refl h.locals_are refl),
      ),
    )

append_exact : (more : ℕ) → Exact (IsAppend more) (append more)
unfolding append
append_exact more =
    Exact-same (Here (BothR (AreTypes more) (AreTypes 0) (λ e. Append e))) (IsAppend more) _ (append_to more) (append_from more)
    (here_exact (BothR (AreTypes more) (AreTypes 0) (λ e. Append e)) _ (both_from (AreTypes more) (AreTypes 0) (λ e. Append e) (entries more) (entries 0) (entries_exact more) (entries_exact 0)))

full_to : (at : ℕ) (text : List ℕ) (w : Written) → BothR AreCounted AreCounted (λ e. Full e) at at text w → IsFull at text w
full_to at text w h =
    let b = h.5 in
    let made_w = b.5 in
    let there = behind h.1 h.0 at h.4 in
    subst (λ (z : Written). IsFull at text z) made_w.2 (record {
      delta = h.1;
      locals = b.1;
      stack = b.2;
      entries = b.0;
      spelled = three text h.1 h.2 b.1 b.2 h.3 b.3;
      delta_at = refl;
      delta_is = h.4;
      locals_are = refl;
      entries_are = subst (λ (k : ℕ). AreCounted k b.1 b.0) there b.4;
      stack_is = subst (λ (k : ℕ). AreCounted (k + length b.1) b.2 made_w.0) there made_w.1;
    })

full_from : (at : ℕ) (text : List ℕ) (w : Written) → IsFull at text w → BothR AreCounted AreCounted (λ e. Full e) at at text w
full_from at text w h =
    let there = sym (behind h.delta w.delta at h.delta_is) in (
      w.delta,
      h.delta,
      h.locals ++ h.stack,
      h.spelled,
      h.delta_is,
      (
        h.entries,
        h.locals,
        h.stack,
        refl,
        subst (λ (k : ℕ). AreCounted k h.locals h.entries) there h.entries_are,
        (w.stack, subst (λ (k : ℕ). AreCounted (k + length h.locals) h.stack w.stack) there h.stack_is, made_is w at w.delta (Full h.entries) w.stack h.delta_at refl h.locals_are refl),
      ),
    )

full_exact : Exact IsFull full
unfolding full
full_exact =
    Exact-same (Here (BothR AreCounted AreCounted (λ e. Full e))) IsFull _ full_to full_from
    (here_exact (BothR AreCounted AreCounted (λ e. Full e)) _ (both_from AreCounted AreCounted (λ e. Full e) counted counted counted_exact counted_exact))

-- ---- a frame

form_exact : (known place tag : ℕ) → Exact (IsForm known place tag) (form known place tag)
unfolding form
form_exact known place tag =
    let r7 = if_exact (ltb tag 255) _ _ _ _ (append_exact (tag - 251)) full_exact in
    let r6 = if_exact (eqb tag 251) _ _ _ _ (extended_exact 0) r7 in
    let r5 = if_exact (ltb tag 251) _ _ _ _ (chop_exact known place (251 - tag)) r6 in
    let r4 = if_exact (eqb tag 247) _ _ _ _ (extended_exact 1) r5 in
    let r3 = if_exact (ltb tag 247) (λ at text w. ⊥) _ _ _ (refused_exact (λ at text w. ⊥) (Reserved place tag) (λ at text w h. h)) r4 in
    let r2 = if_exact (ltb tag 128) _ _ _ _ (short_exact place (tag - 64) 1) r3 in
    if_exact (ltb tag 64) _ _ _ _ (short_exact place tag 0) r2

abbrev FrameR : ℕ → ℕ → ℕ → List ℕ → Written → Type 0
FrameR known place = Then (Anywhere IsU8) (IsForm known place)

frame_to : (known at : ℕ) (text : List ℕ) (w : Written) → FrameR known at at text w → IsFrame known at text w
frame_to known at text w h =
    let front = one_byte h.1 h.0 h.4 in
    let there : at + length h.1 ≡ at + 1 = ap (λ (z : List ℕ). at + length z) front in
    record {
      tag = h.0;
      form = h.2;
      spelled = h.3 ∙ ap (λ (z : List ℕ). z ++ h.2) front;
      byte = h.4.0;
      form_is = subst (λ (k : ℕ). IsForm known at h.0 k h.2 w) there h.5;
    }

pub frame_exact : (known : ℕ) → Exact (IsFrame known) (frame known)
unfolding frame
frame_exact known =
    Exact-same (Here (FrameR known)) (IsFrame known) _
    (frame_to known)
    (λ at text w h. (h.tag, h.tag ∷ [], h.form, h.spelled, is_byte h.tag h.byte, h.form_is))
    (here_exact (FrameR known) (λ at. number w8 >>= λ tag. form known at tag) (λ at.
    then_exact (Anywhere IsU8) (IsForm known at) (number w8) (form known at) u8_exact (form_exact known at)))

-- ---- a table

frames_of_chain : (known at : ℕ) (text : List ℕ) (ws : List Written) → Chain IsFrame known_next known at text ws → AreFrames known at text ws
frames_of_chain known at text [] h = h
frames_of_chain known at text (w ∷ ws) h = (h.0, h.1, h.2, h.3, frames_of_chain (known_next known w) (at + length h.0) h.1 ws h.4)

chain_of_frames : (known at : ℕ) (text : List ℕ) (ws : List Written) → AreFrames known at text ws → Chain IsFrame known_next known at text ws
chain_of_frames known at text [] h = h
chain_of_frames known at text (w ∷ ws) h = (h.0, h.1, h.2, h.3, chain_of_frames (known_next known w) (at + length h.0) h.1 ws h.4)

abbrev FramesR : ℕ → ℕ → ℕ → List ℕ → List Written → Type 0
FramesR known count at text ws = (length ws ≡ count) × Chain IsFrame known_next known at text ws

table_to : (known at : ℕ) (text : List ℕ) (ws : List Written) → Then (Anywhere IsU16) (FramesR known) at text ws → IsTable known at text ws
table_to known at text ws h =
    let chain = subst (λ (k : ℕ). Chain IsFrame known_next known k h.2 ws) (behind h.1 h.0 at h.4) h.5.1 in
    record {
      count = h.1;
      entries = h.2;
      spelled = h.3;
      count_is = subst (λ (n : ℕ). IsU16 h.1 n) (sym h.5.0) h.4;
      frames_are = frames_of_chain known (at + 2) h.2 ws chain;
    }

table_from : (known at : ℕ) (text : List ℕ) (ws : List Written) → IsTable known at text ws → Then (Anywhere IsU16) (FramesR known) at text ws
table_from known at text ws h =
    let chain = chain_of_frames known (at + 2) h.entries ws h.frames_are in
    (length ws, h.count, h.entries, h.spelled, h.count_is, (refl, subst (λ (k : ℕ). Chain IsFrame known_next known k h.entries ws) (sym (behind h.count (length ws) at h.count_is)) chain))

pub table_exact : (known : ℕ) → Exact (IsTable known) (table known)
unfolding table
table_exact known =
    Exact-same (Then (Anywhere IsU16) (FramesR known)) (IsTable known) _ (table_to known) (table_from known)
    (then_exact (Anywhere IsU16) (FramesR known) (number w16) (λ count. frames count known) u16_exact (λ count.
    each_exact IsFrame frame known_next frame_exact count known))
