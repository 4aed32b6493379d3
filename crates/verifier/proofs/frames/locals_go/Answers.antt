use Rattle.std.proofs.Common.{sym, ◌∙◌}
use Rattle.class_set.proofs.Assigned.{words_go_on}
use Rattle.verifier.proofs.frames.locals_go.Goals as goal

pub loop-wanted-preserved : goal.loop-wanted-preserved
loop-wanted-preserved c =
    let on = words_go_on c.args.set.now c.loop-wanted.rest.now c.args.entries.now c.loop-wanted.wanted-index c.wanted-item.result c.loop-wanted-test.true c.wanted-item.is (sym c.first_goes.ensures ∙ c.if-not-first_goes.false) in
    let now = c.behind-rest.ensures in
    cc
