use Rattle.program_links.specs.Cells.{statics_of}
use Rattle.program_links.proofs.Gathered.{Gathered}
use Rattle.program_links.proofs.cells.first_statics.Given as goal

-- those of the classes so far
abbrev pub invariant-loop-number : goal.invariant-loop-number
invariant-loop-number g l = Gathered (statics_of g.T.Tag.none_of) l.set l.statics l.number
