use Rattle.program_links.specs.Starts.{start_of}
use Rattle.program_links.proofs.Gathered.{Gathered}
use Rattle.program_links.proofs.starts.starts_along.Given as goal

-- those of the classes so far
abbrev pub invariant-loop-at : goal.invariant-loop-at
invariant-loop-at l = Gathered (start_of l.starts) l.classes l.numbers l.at
