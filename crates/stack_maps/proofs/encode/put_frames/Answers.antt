use Rattle.std.proofs.Common.{◌≡◌, ◌∙◌, ◌+◌, ◌++◌, ◌∷◌, [], List, ℕ, take, drop, ap, sym, subst, append_assoc, All}
use Rattle.std.proofs.lemmas.List.{take_more, take_all}
use Rattle.std.proofs.lemmas.List.Elements.{All-push}
use Rattle.stack_maps.specs.declared.frame.RawFrame.{RawFrame}
use Rattle.stack_maps.specs.Bounds.{FrameFits}
use Rattle.stack_maps.specs.Spelling.{Ascending, frame_text, frames_text}
use Rattle.stack_maps.proofs.MarkLoops.{from_place}
use Rattle.stack_maps.proofs.encode.put_frames.Goals as goal

pub loop-frame-preserved : goal.loop-frame-preserved
loop-frame-preserved c =
    let xs = c.args.frames.now in
    let i = c.loop-frame.frame-index in
    let x = c.frame-item.result in
    let next = c.loop-frame.next in
    let held = c.loop-frame.bytes.items in
    let put = c.in_ok-put_frame.ensures in
    let here : drop i xs ≡ x ∷ drop (i + 1) xs = from_place xs i x c.loop-frame-test.true c.frame-item.is in
    let more : take (i + 1) xs ≡ take i xs ++ x ∷ [] = take_more xs i x c.loop-frame-test.true ∙ ap (λ (y : RawFrame). take i xs ++ y ∷ []) (sym c.frame-item.is) in
    let left = frames_text (x.offset + 1) (drop (i + 1) xs) in
    let ascends : Ascending next (x ∷ drop (i + 1) xs) = subst (λ (z : List RawFrame). Ascending next z) here c.loop-frame.invariant.ascending in
    rw c.from-next.ensures (record {
      spelled = ap (λ (z : List ℕ). z ++ left) put.spelled ∙ append_assoc held (frame_text next x) left ∙ ap (λ (z : List RawFrame). held ++ frames_text next z) (sym here) ∙ c.loop-frame.invariant.spelled;
      ascending = ascends.1;
      fit = rw more (All-push FrameFits (take i xs) x c.loop-frame.invariant.fit put.fits);
    })

pub returns-clause-fit : goal.returns-clause-fit
returns-clause-fit c = let h = c.loop-frame.invariant.fit in subst (λ (z : List RawFrame). All FrameFits z) (take_all _ _ c.loop-frame-test.false) h
