use Rattle.std.proofs.Common.{◌≡◌, ◌≤◌, drop}
use Rattle.stack_maps.specs.Expand.{expanded, in_front, last_locals}
use Rattle.stack_maps.proofs.expand.expand.Given as goal

abbrev pub invariant-loop-frame : goal.invariant-loop-frame
invariant-loop-frame l = record {
  expands : in_front l.frames.items (expanded l.next (last_locals l.first l.frames.items) (drop l.frame-index l.written)) ≡ expanded 0 l.first l.written;
  room : l.next ≤ 65536;
}
