use Rattle.std.proofs.Common.{◌≡◌, ◌+◌, drop, length}
use Rattle.machine.specs.Copied.{laid_in}
use Rattle.machine.proofs.copying.lay.Given as goal

abbrev pub invariant-loop-k : goal.invariant-loop-k
invariant-loop-k g l = (laid_in l.heap l.target (l.to + l.k) (drop l.k l.words) ≡ laid_in l.initial.heap l.target l.to l.words) × (length l.heap ≡ length l.initial.heap)
