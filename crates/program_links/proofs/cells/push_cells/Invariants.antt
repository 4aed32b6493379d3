use Rattle.program_links.specs.Cells.{cell_of}
use Rattle.program_links.proofs.Gathered.{Onto}
use Rattle.program_links.proofs.cells.push_cells.Given as goal

-- those of the fields so far
abbrev pub invariant-loop-at : goal.invariant-loop-at
invariant-loop-at g l = Onto (cell_of g.T.Tag.none_of) l.fields l.fn.cells l.cells l.at
