use Rattle.std.proofs.Common.{◌≡◌, ◌∙◌}
use Rattle.class_set.proofs.Finals.{kept_declared}
use Rattle.class_set.proofs.final_super.keeps_final.Goals as goal

pub returns : goal.returns
returns c = c.declares_final.ensures ∙ kept_declared c.args.set.now c.args.method.now c.args.number
