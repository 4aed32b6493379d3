use Rattle.program_links.specs.Cells.{cells_of}
use Rattle.program_links.proofs.Gathered.{Gathered}
use Rattle.program_links.proofs.cells.cells_along.Given as goal

-- those of the classes so far
abbrev pub invariant-loop-at : goal.invariant-loop-at
invariant-loop-at g l = Gathered (cells_of g.T.Tag.none_of l.set) l.classes l.cells l.at
