use Rattle.std.proofs.Common.{◌≡◌, ◌+◌, ◌++◌, ◌∷◌, [], Some, refl, sym, ap, ◌∙◌, subst}
use Rattle.std.specs.Prelude.{slice_get}
use Rattle.std.proofs.lemmas.Option.{slice_get_read}
use Rattle.verifier.proofs.Typings.{Passed, passes}
use Rattle.verifier.proofs.typed_code.check_code.Goals as goal

pub loop-i-preserved : goal.loop-i-preserved
loop-i-preserved c =
    let m = c.args.method.now in
    let read : slice_get c.as_slice-insn-items.result.now c.loop-i.i ≡ Some c.insn-item.result =
    slice_get_read _ _ c.loop-i.i c.insn-item.result refl c.loop-i-test.true c.insn-item.is in
    let items = c.as_slice-insn-items.ensures ∙ ap (λ k. k.insns) c.code.ensures in
    let here : slice_get m.code.insns c.loop-i.i ≡ Some c.insn-item.result = ap (λ xs. slice_get xs c.loop-i.i) (sym items) ∙ read in
    let frames : c.put.new.frames.items ≡ c.loop-i.frames.items ++ c.in-Ok.field-0.frame ∷ [] = c.in_ok-put-in-Ok.ensures in
    subst (λ fs. Passed m fs (c.loop-i.i + 1) c.in-Ok.field-0.falls_on) (sym frames)
    (passes m c.loop-i.frames.items c.loop-i.i c.loop-i.came c.insn-item.result c.in-Ok.field-0 c.loop-i.invariant here c.in-Ok.ensures.ok)
