use Rattle.program_links.specs.Each.{Numbered}
use Rattle.program_links.specs.RowTo.{BaseAt}
use Rattle.program_links.proofs.type_rows.base_classes.Given as goal

-- those of the types so far
abbrev pub invariant-loop-at : goal.invariant-loop-at
invariant-loop-at l = Numbered (BaseAt l.set l.tables) l.bases l.at
