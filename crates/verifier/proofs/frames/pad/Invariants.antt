use Rattle.std.proofs.Common.{◌≡◌, ◌++◌}
use Rattle.std.specs.Prelude.{replicate}
use Rattle.class_model.specs.declared.class.VType.TheVariants.{Top}
use Rattle.verifier.proofs.frames.pad.Given as goal

abbrev pub invariant-loop-filled : goal.invariant-loop-filled
invariant-loop-filled l = l.words.items ≡ l.initial.words.items ++ replicate l.filled Top
