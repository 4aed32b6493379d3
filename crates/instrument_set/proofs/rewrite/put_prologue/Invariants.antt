use Rattle.std.proofs.Common.{◌≡◌, ◌-◌, ◌++◌}
use Rattle.instrument_set.specs.Written.{cleared}
use Rattle.instrument_set.proofs.rewrite.put_prologue.Given as goal

-- the slots so far are set to 0
abbrev pub invariant-loop-slot : goal.invariant-loop-slot
invariant-loop-slot l = l.out ≡ l.fn.out ++ cleared l.fn.slots.locals (l.slot - l.fn.slots.locals)
