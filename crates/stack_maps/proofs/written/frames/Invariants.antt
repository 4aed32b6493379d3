use Rattle.std.proofs.Common.{◌≡◌, ◌+◌, ◌*◌, ◌-◌, ◌≤◌, All, length}
use Rattle.class_input.specs.Reading.{seen}
use Rattle.stack_maps.specs.Bounds.{IsSmall}
use Rattle.stack_maps.specs.Reading.{frames}
use Rattle.stack_maps.proofs.Loops.{gathered}
use Rattle.stack_maps.proofs.written.frames.Given as goal

abbrev pub invariant-loop : goal.invariant-loop
invariant-loop l = record {
  reads : gathered l.frames.items (frames (l.count - l.counter) l.known (seen l.input)) ≡ frames l.count l.first (seen l.initial.input);
  small : All IsSmall l.frames.items;
  counted : length l.frames.items ≡ l.counter;
  room : l.known ≤ l.first + 65535 * l.counter;
}
