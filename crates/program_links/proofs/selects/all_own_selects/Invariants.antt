use Rattle.program_links.specs.Each.{Numbered}
use Rattle.program_links.specs.RowTo.{OwnSelects}
use Rattle.program_links.proofs.selects.all_own_selects.Given as goal

-- those of the classes so far
abbrev pub invariant-loop-class : goal.invariant-loop-class
invariant-loop-class l = Numbered (OwnSelects l.set l.tables) l.owns l.class
