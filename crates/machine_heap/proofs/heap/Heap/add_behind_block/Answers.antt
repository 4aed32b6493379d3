use Rattle.std.proofs.Common.{◌≡◌, ◌∙◌, ◌++◌, ◌∷◌, [], ap, arith}
use Rattle.machine_heap.proofs.Joined.{laid_behind, item_behind}
use Rattle.machine_heap.proofs.heap.Heap.add_behind_block.Goals as goal

pub invariant_of-self-in_default : goal.invariant_of-self-in_default
invariant_of-self-in_default g c =
    let full = c.self.inside.full.items in
    let last = c.self.inside.last in
    let items : c.push-2.new.self.items ≡ full ++ last ∷ [] = cc (c.in_default.ensures.items, c.replace-filled.ensures.value) in
    let dest : c.replace-filled.new.dest ≡ [] ++ c.args.item ∷ [] = cc (c.replace-filled.ensures.after, c.in_ok-push.ensures.ok, c.in_ok-fresh.ensures) in
    rw (items, dest) (laid_behind full last c.args.item c.self.invariant (omega (arith, c.if-len-ne-BLOCK.false, c.len.ensures)) (omega (arith, c.if-len-ge-BLOCKS.false, c.len-else-len-ne-BLOCK.ensures, c.self.inside.full.ok.0)))

pub returns-clause-ok : goal.returns-clause-ok
returns-clause-ok g c =
    let full = c.self.inside.full.items in
    let last = c.self.inside.last in
    let items : c.push-2.new.self.items ≡ full ++ last ∷ [] = cc (c.in_default.ensures.items, c.replace-filled.ensures.value) in
    let dest : c.replace-filled.new.dest ≡ [] ++ c.args.item ∷ [] = cc (c.replace-filled.ensures.after, c.in_ok-push.ensures.ok, c.in_ok-fresh.ensures) in
    rw (items, dest) (item_behind full last c.args.item ∙ ap (λ q. q ++ c.args.item ∷ []) c.self.view_is)
