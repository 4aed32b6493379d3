use Rattle.std.proofs.Common.{◌≡◌, ◌+◌, ◌*◌, ◌<◌, ◌/◌, ◌%◌, sym, ap, ◌∙◌, arith}
use Rattle.std.specs.Prelude.{slice_get}
use Rattle.machine_heap.proofs.Joined.{block_found, item_in_block}
use Rattle.machine_heap.proofs.heap.Heap.item.Goals as goal

pub returns-then-block-len : goal.returns-then-block-len
returns-then-block-len g c =
    let full = c.self.inside.full.items in
    let p = c.args.place in
    let b = c.index.result.now in
    let at = block_found full c.len.result (p / 1024) b (c.len.ensures ∙ c.self.inside.full.ok.0) c.if-block-len.true c.index.ensures in
    let small : p % 1024 < 1024 = omega arith in
    let e : p ≡ 1024 * (p / 1024) + p % 1024 = omega arith in
    c.get.ensures ∙ sym (item_in_block full c.self.inside.last b p (p / 1024) (p % 1024) c.self.invariant.all at small e)
    ∙ ap (λ xs. slice_get xs p) c.self.view_is
