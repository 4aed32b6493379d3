use Rattle.std.proofs.Common.{◌++◌, ◌∷◌, []}
use Rattle.modified_utf8.proofs.Texts.{read_more}
use Rattle.modified_utf8.proofs.text.first_wrong.Goals as goal

pub loop-rest-preserved : goal.loop-rest-preserved
loop-rest-preserved c =
    let so_far = c.loop-rest.invariant in
    let u = c.in-Some.field-0-0 in
    let next = rw c.in-Some.behind-is at c.in-Some.ensures in
    (so_far.0 ++ u ∷ [], read_more c.args.bytes.now so_far.0 c.loop-rest.rest.now u c.in-Some.behind.now so_far.1 next.0 next.1)
