use Rattle.std.proofs.Common.{◌+◌, refl}
use Rattle.program_links.specs.Cells.{statics_of}
use Rattle.program_links.proofs.Gathered.{gathered_more}
use Rattle.program_links.proofs.cells.first_statics.Goals as goal

pub loop-number-preserved : goal.loop-number-preserved
loop-number-preserved g c =
    let at = c.loop-number.number in
    gathered_more (statics_of g.T.Tag.none_of) c.args.set.now c.loop-number.statics c.push_statics.new.statics at (at + 1) c.class.result.now c.loop-number.invariant c.class.ensures c.in_ok-push_statics.ensures refl
