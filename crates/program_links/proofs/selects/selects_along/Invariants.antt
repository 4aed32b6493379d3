use Rattle.program_links.specs.Selects.{own_of}
use Rattle.program_links.proofs.Gathered.{Gathered}
use Rattle.program_links.proofs.selects.selects_along.Given as goal

-- those of the classes so far
abbrev pub invariant-loop-at : goal.invariant-loop-at
invariant-loop-at l = Gathered (own_of l.owns) l.numbers l.selects l.at
