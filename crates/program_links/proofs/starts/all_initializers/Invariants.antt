use Rattle.program_links.specs.Each.{Numbered}
use Rattle.program_links.specs.RowTo.{StartsWith}
use Rattle.program_links.proofs.starts.all_initializers.Given as goal

-- those of the classes so far
abbrev pub invariant-loop-class : goal.invariant-loop-class
invariant-loop-class l = Numbered (StartsWith l.set) l.starts l.class
