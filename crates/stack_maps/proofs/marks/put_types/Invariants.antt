use Rattle.std.proofs.Common.{◌≡◌, ◌≤◌, ◌+◌, ◌*◌, ◌++◌, drop}
use Rattle.stack_maps.specs.Marks.{type_marks}
use Rattle.stack_maps.proofs.marks.put_types.Given as goal

abbrev pub invariant-loop-t : goal.invariant-loop-t
invariant-loop-t l = record {
  puts : l.marks ++ type_marks l.frame l.place (drop l.t-index l.entries.types) ≡ l.initial.marks ++ type_marks l.frame l.entries.at l.entries.types;
  room : l.place ≤ l.entries.at + 3 * l.t-index;
}
