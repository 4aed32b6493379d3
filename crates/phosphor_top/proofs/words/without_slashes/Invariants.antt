use Rattle.std.proofs.Common.{◌≡◌, length}
use Rattle.std.specs.Str.{IsUtf8}
use Rattle.phosphor_top.specs.Commands.{without_slashes}
use Rattle.phosphor_top.proofs.words.without_slashes.Given as goal

-- only slashes at the end were taken away
abbrev pub invariant-loop-front : goal.invariant-loop-front
invariant-loop-front l = record {
  text : IsUtf8 l.dir;
  same : without_slashes l.dir ≡ without_slashes l.word;
}

abbrev pub decreases-loop-front : goal.decreases-loop-front
decreases-loop-front l = length l.dir
