use Rattle.std.proofs.Common.{◌≡◌, length, take}
use Rattle.machine.proofs.initial.laid_out.Given as goal

abbrev pub invariant-loop-k : goal.invariant-loop-k
invariant-loop-k g l = (length l.copy ≡ length l.words) × (take l.k l.copy ≡ take l.k l.words)
