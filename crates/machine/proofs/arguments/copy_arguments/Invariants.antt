use Rattle.std.proofs.Common.{◌≡◌, ◌-◌, ◌++◌, drop, reverse, take}
use Rattle.machine.proofs.arguments.copy_arguments.Given as goal

abbrev pub invariant-loop-k : goal.invariant-loop-k
invariant-loop-k g l = l.locals ≡ take (l.words - l.k) l.initial.locals ++ (reverse (take l.k l.stack) ++ drop l.words l.initial.locals)
