use Rattle.program_links.specs.Each.{Numbered}
use Rattle.program_links.specs.RowTo.{TypeRow}
use Rattle.program_links.proofs.type_rows.type_rows.Given as goal

-- those of the types so far
abbrev pub invariant-loop-at : goal.invariant-loop-at
invariant-loop-at g l = Numbered (TypeRow g.T.Tag.none_of l.set l.tables) l.rows l.at
