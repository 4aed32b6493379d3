use Rattle.std.proofs.Common.{sym, ◌∙◌}
use Rattle.class_set.proofs.Assigned.{words_go_on}
use Rattle.class_set.proofs.class_set.ClassSet.locals_go.Goals as goal

pub loop-wanted-preserved : goal.loop-wanted-preserved
loop-wanted-preserved c =
    let on = words_go_on c.args.self.now c.loop-wanted.words c.args.to.now c.loop-wanted.wanted-index c.wanted-item.result c.loop-wanted-test.true c.wanted-item.is (sym c.first_goes.ensures ∙ c.if-not-first_goes.false) in
    let now = c.pass.ensures in
    cc
