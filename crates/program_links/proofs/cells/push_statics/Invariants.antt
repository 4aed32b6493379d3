use Rattle.program_links.specs.Cells.{static_cell}
use Rattle.program_links.proofs.Gathered.{Onto}
use Rattle.program_links.proofs.cells.push_statics.Given as goal

-- those of the fields so far
abbrev pub invariant-loop-at : goal.invariant-loop-at
invariant-loop-at g l = Onto (static_cell g.T.Tag.none_of) l.fields l.fn.statics l.statics l.at
