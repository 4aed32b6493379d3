use Rattle.std.proofs.Common.{◌≡◌, ◌++◌, drop, false}
use Rattle.verifier.specs.Frames.{entries_from}
use Rattle.verifier.proofs.frames.entries_of.Given as goal

abbrev pub invariant-loop-ty : goal.invariant-loop-ty
invariant-loop-ty l = l.entries ++ entries_from l.in_long (drop l.ty-index l.words) ≡ entries_from false l.words
