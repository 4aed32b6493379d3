use Rattle.program_links.specs.Selects.{OwnSoFar}
use Rattle.program_links.proofs.selects.own_selects.Given as goal

-- those of the methods so far
abbrev pub invariant-loop-index : goal.invariant-loop-index
invariant-loop-index l = OwnSoFar l.set l.tables l.class l.of.methods l.selects l.index
