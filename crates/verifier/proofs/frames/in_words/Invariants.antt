use Rattle.std.proofs.Common.{◌≡◌, ◌++◌, drop}
use Rattle.class_set.specs.Assignable.{in_words}
use Rattle.verifier.proofs.frames.in_words.Given as goal

abbrev pub invariant-loop-ty : goal.invariant-loop-ty
invariant-loop-ty l = l.words.items ++ in_words (drop l.ty-index l.entries) ≡ in_words l.entries
