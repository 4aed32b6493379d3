use Rattle.std.proofs.Common.{◌≡◌, ◌+◌, ◌*◌, ◌/◌, ◌%◌, ◌-◌, ◌<◌, length, ap, sym, ◌∙◌, arith, take}
use Rattle.machine_heap.specs.Blocks.{followed_by}
use Rattle.machine_heap.proofs.Joined.{popped, laid_cut, cut_in_last, cut_in_block}
use Rattle.machine_heap.proofs.heap.Heap.shorten.Goals as goal

pub returns-else-block-len : goal.returns-else-block-len
returns-else-block-len g c =
    let full = c.self.inside.full.items in
    let p = c.args.len in
    let n = c.len-start.result in
    let l = c.len-start.ensures ∙ c.self.inside.full.ok.0 in
    let past = c.if-block-len.false in
    let e : p ≡ 1024 * length full + (p - n * 1024) = omega (arith, l, past, c.len.ensures, c.len-start.ensures) in
    ap (followed_by full) c.shorten-else-block-len.ensures ∙ cut_in_last full c.self.inside.last p (p - n * 1024) c.self.invariant.all e
    ∙ ap (take p) c.self.view_is

pub invariant_of-self : goal.invariant_of-self
invariant_of-self g c =
    let full = c.self.inside.full.items in
    let q = c.args.len / 1024 in
    let there : q < length full = omega (arith, c.if-block-len.true, c.len.ensures, c.self.inside.full.ok.0) in
    let parts = popped full c.pop.new.self.items q c.in-Some.last there (sym c.truncate.ensures.items ∙ c.in-Some.ensures.items) in
    rw (parts.1, c.shorten.ensures) (laid_cut full c.self.inside.last c.in-Some.last q (c.args.len % 1024) c.self.invariant parts.0 (omega arith) there)

pub returns-in-Some : goal.returns-in-Some
returns-in-Some g c =
    let full = c.self.inside.full.items in
    let p = c.args.len in
    let q = p / 1024 in
    let r = p % 1024 in
    let there : q < length full = omega (arith, c.if-block-len.true, c.len.ensures, c.self.inside.full.ok.0) in
    let parts = popped full c.pop.new.self.items q c.in-Some.last there (sym c.truncate.ensures.items ∙ c.in-Some.ensures.items) in
    rw (parts.1, c.shorten.ensures) (cut_in_block full c.self.inside.last c.in-Some.last p q r c.self.invariant.all parts.0 (omega arith) (omega arith) ∙ ap (take p) c.self.view_is)
