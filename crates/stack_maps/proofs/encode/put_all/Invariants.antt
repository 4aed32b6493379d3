use Rattle.std.proofs.Common.{◌≡◌, ◌++◌, take, All}
use Rattle.std.specs.List.{flat_map}
use Rattle.stack_maps.specs.Bounds.{TypeFits}
use Rattle.stack_maps.specs.Spelling.{type_text}
use Rattle.stack_maps.proofs.encode.put_all.Given as goal

abbrev pub invariant-loop-t : goal.invariant-loop-t
invariant-loop-t l = record {
  spelled : l.bytes.items ≡ l.initial.bytes.items ++ flat_map type_text (take l.t-index l.types);
  fits : All TypeFits (take l.t-index l.types);
}
