use Rattle.std.proofs.Common.{◌+◌, refl}
use Rattle.program_links.specs.Cells.{cell_of}
use Rattle.program_links.proofs.Gathered.{onto_more}
use Rattle.program_links.proofs.cells.push_cells.Goals as goal

pub loop-at-preserved : goal.loop-at-preserved
loop-at-preserved g c =
    let at = c.loop-at.at in
    onto_more (cell_of g.T.Tag.none_of) c.args.fields.now c.args.cells.now c.loop-at.cells c.push_cell.new.cells at (at + 1) c.at.result.now c.loop-at.invariant c.at.ensures c.in_ok-push_cell.ensures refl
