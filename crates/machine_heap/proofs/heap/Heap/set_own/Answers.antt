use Rattle.std.proofs.Common.{◌/◌, length, ap, ◌∙◌, arith}
use Rattle.machine_heap.specs.Blocks.{with_own}
use Rattle.machine_heap.proofs.Joined.{block_found, block_has, length_laid, laid_with_block, laid_with_last, writes_block, writes_last}
use Rattle.machine_heap.proofs.heap.Heap.set_own.Goals as goal

pub set_own-requires : goal.set_own-requires
set_own-requires g c =
    let full = c.self.inside.full.items in
    let p = c.args.place in
    let b = c.index_mut.result.now in
    let at = block_found full c.len.result (p / 1024) b (c.len.ensures ∙ c.self.inside.full.ok.0) c.if-block-len.true c.index_mut.ensures.value in
    omega (arith, block_has full c.self.inside.last b (p / 1024) c.self.invariant at)

pub invariant_of-self : goal.invariant_of-self
invariant_of-self g c =
    let full = c.self.inside.full.items in
    let p = c.args.place in
    let b = c.index_mut.result.now in
    let at = block_found full c.len.result (p / 1024) b (c.len.ensures ∙ c.self.inside.full.ok.0) c.if-block-len.true c.index_mut.ensures.value in
    laid_with_block full c.self.inside.last b c.set_own.new.self (p / 1024) c.self.invariant at c.set_own.ensures.as_long

pub set_own-requires-else-block-len : goal.set_own-requires-else-block-len
set_own-requires-else-block-len g c =
    omega (arith, length_laid c.self.inside.full.items c.self.inside.last c.self.invariant, ap length c.self.view_is, c.len-start.ensures ∙ c.self.inside.full.ok.0, c.len.ensures ∙ c.self.inside.full.ok.0)

pub invariant_of-self-else-block-len : goal.invariant_of-self-else-block-len
invariant_of-self-else-block-len g c =
    laid_with_last c.self.inside.full.items c.self.inside.last c.set_own-else-block-len.new.self c.self.invariant c.set_own-else-block-len.ensures.as_long

pub returns-then-block-len : goal.returns-then-block-len
returns-then-block-len g c = λ x found.
    let full = c.self.inside.full.items in
    let p = c.args.place in
    let b = c.index_mut.result.now in
    let at = block_found full c.len.result (p / 1024) b (c.len.ensures ∙ c.self.inside.full.ok.0) c.if-block-len.true c.index_mut.ensures.value in
    writes_block full c.self.inside.last c.args.self.now b c.set_own.new.self p x (with_own x c.args.own) c.self.invariant at c.self.view_is found (c.set_own.ensures.written x)

pub returns-else-block-len : goal.returns-else-block-len
returns-else-block-len g c = λ x found.
    writes_last c.self.inside.full.items c.self.inside.last c.args.self.now c.set_own-else-block-len.new.self c.args.place c.len-start.result x (with_own x c.args.own) c.self.invariant
    (c.len-start.ensures ∙ c.self.inside.full.ok.0) (omega (arith, c.if-block-len.false, c.len-start.ensures, c.len.ensures)) c.self.view_is found (c.set_own-else-block-len.ensures.written x)
