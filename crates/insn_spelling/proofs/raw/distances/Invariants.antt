use Rattle.std.proofs.Common.{◌≡◌, map, take}
use Rattle.insn_spelling.specs.Raw.{distance}
use Rattle.insn_spelling.proofs.raw.distances.Given as goal

abbrev pub invariant-loop-target : goal.invariant-loop-target
invariant-loop-target l = l.found ≡ map (distance l.layout l.pc) (take l.target-index l.targets)
