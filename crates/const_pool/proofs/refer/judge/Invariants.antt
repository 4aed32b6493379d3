use Rattle.std.proofs.Common.{◌≡◌, drop}
use Rattle.class_input.specs.Reading.{checked}
use Rattle.const_pool.specs.PoolReading.{judged_slot, pool_of}
use Rattle.const_pool.proofs.refer.judge.Given as goal

abbrev pub invariant-loop-slot : goal.invariant-loop-slot
invariant-loop-slot l = checked (judged_slot (pool_of l.slots)) (drop l.slot-index l.slots) ≡ checked (judged_slot (pool_of l.slots)) l.slots
