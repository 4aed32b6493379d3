use Rattle.std.proofs.Common.{◌∙◌, ◌+◌, ◌++◌, refl, ap}
use Rattle.program_links.specs.Cells.{cells_of}
use Rattle.program_links.proofs.Gathered.{gathered_more}
use Rattle.program_links.proofs.Celled.{class_cells}
use Rattle.program_links.proofs.cells.cells_along.Goals as goal

pub loop-at-preserved : goal.loop-at-preserved
loop-at-preserved g c =
    let at = c.loop-at.at in
    let none = g.T.Tag.none_of in
    let number = c.at.result.now in
    let own = ap (λ cells. c.loop-at.cells ++ cells) (class_cells none c.args.set.now number c.class-class.result.now c.class-class.ensures) in
    gathered_more (cells_of none c.args.set.now) c.args.classes.now c.loop-at.cells c.push_cells.new.cells at (at + 1) number c.loop-at.invariant c.at.ensures (c.in_ok-push_cells.ensures ∙ own) refl
