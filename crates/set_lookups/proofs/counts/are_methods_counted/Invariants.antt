use Rattle.std.proofs.Common.{take}
use Rattle.std.specs.Prelude.{All, IfSome}
use Rattle.set_lookups.specs.Counts.{IsCodeCounted}
use Rattle.set_lookups.proofs.counts.are_methods_counted.Given as goal

-- those so far pass
abbrev pub invariant-loop-method : goal.invariant-loop-method
invariant-loop-method l = All (λ method. IfSome method.code IsCodeCounted) (take l.method-index l.methods)
