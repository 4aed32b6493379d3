use Rattle.std.proofs.Common.{◌≡◌, ◌-◌, [], All}
use Rattle.class_input.specs.Reading.{each, seen}
use Rattle.const_pool.specs.PoolReading.{more, IsPlaced}
use Rattle.const_pool.proofs.decode.slots.Given as goal

abbrev pub invariant-loop : goal.invariant-loop
invariant-loop l = (each (l.count - l.counter) (more l.count) l.slots.items (seen l.input) ≡ each l.count (more l.count) [] (seen l.initial.input)) × All IsPlaced l.slots.items
