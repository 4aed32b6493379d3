use Rattle.std.proofs.Common.{◌≡◌, drop}
use Rattle.run_state.specs.Objects.{sizes_of}
use Rattle.machine.specs.Nested.{sized}
use Rattle.machine.proofs.nesting.sizes_of.Given as goal

abbrev pub invariant-loop-count : goal.invariant-loop-count
invariant-loop-count l = sizes_of l.counts ≡ sized l.sizes (sizes_of (drop l.count-index l.counts))
