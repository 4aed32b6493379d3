use Rattle.std.proofs.Common.{◌≡◌, drop, reverse, take}
use Rattle.run_state.specs.Objects.{counts_of}
use Rattle.machine.specs.Nested.{appended}
use Rattle.machine.proofs.nesting.counts.Given as goal

abbrev pub invariant-loop-k : goal.invariant-loop-k
invariant-loop-k g l = counts_of (reverse (take l.words l.stack)) ≡ appended l.counts (counts_of (drop l.k (reverse (take l.words l.stack))))
