use Rattle.std.proofs.Common.{◌∙◌, ◌++◌, ◌∷◌, [], ap}
use Rattle.machine_heap.specs.Blocks.{followed_by}
use Rattle.machine_heap.proofs.Joined.{item_more}
use Rattle.machine_heap.proofs.heap.Heap.add.Goals as goal

pub returns-in_ok-push-clause-ok : goal.returns-in_ok-push-clause-ok
returns-in_ok-push-clause-ok g c =
    let full = c.self.inside.full.items in
    (c.len-place.ensures, ap (followed_by full) c.in_ok-push.ensures.ok ∙ item_more full c.self.inside.last c.args.item ∙ ap (λ q. q ++ c.args.item ∷ []) c.self.view_is)
