use Rattle.std.proofs.Common.{◌+◌, refl}
use Rattle.program_links.specs.Cells.{static_cell}
use Rattle.program_links.proofs.Gathered.{onto_more}
use Rattle.program_links.proofs.cells.push_statics.Goals as goal

pub loop-at-preserved : goal.loop-at-preserved
loop-at-preserved g c =
    let at = c.loop-at.at in
    onto_more (static_cell g.T.Tag.none_of) c.args.fields.now c.args.statics.now c.loop-at.statics c.push_static.new.statics at (at + 1) c.at.result.now c.loop-at.invariant c.at.ensures c.in_ok-push_static.ensures refl
