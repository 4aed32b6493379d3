use Rattle.std.proofs.Common.{◌≡◌, replicate}
use Rattle.machine.proofs.making.filled.Given as goal

abbrev pub invariant-loop-k : goal.invariant-loop-k
invariant-loop-k g l = l.cells.items ≡ replicate l.k l.word
