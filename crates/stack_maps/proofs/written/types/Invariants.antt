use Rattle.std.proofs.Common.{◌≡◌, ◌-◌, length}
use Rattle.class_input.specs.Reading.{seen}
use Rattle.stack_maps.specs.Reading.{types}
use Rattle.stack_maps.proofs.Loops.{gathered}
use Rattle.stack_maps.proofs.written.types.Given as goal

abbrev pub invariant-loop : goal.invariant-loop
invariant-loop l = record {
  reads : gathered l.types (types (l.count - l.counter) (seen l.input)) ≡ types l.count (seen l.initial.input);
  counted : length l.types ≡ l.counter;
}
