use Rattle.program_links.specs.Each.{Numbered}
use Rattle.program_links.specs.RowTo.{ClassRow}
use Rattle.program_links.proofs.class_rows.class_rows.Given as goal

-- those of the classes so far
abbrev pub invariant-loop-class : goal.invariant-loop-class
invariant-loop-class g l = Numbered (ClassRow g.T.Tag.none_of l.set l.tables) l.rows l.class
