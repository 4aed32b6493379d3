use Rattle.std.proofs.Common.{◌≡◌, ◌++◌, take, All}
use Rattle.std.specs.List.{flat_map}
use Rattle.opcode_table.specs.Writing.{i32_bytes, FitsI32}
use Rattle.opcode_table.proofs.put.put_offsets.Given as goal

abbrev pub invariant-loop-offset : goal.invariant-loop-offset
invariant-loop-offset l = record { text : l.out.items ≡ l.initial.out.items ++ flat_map i32_bytes (take l.offset-index l.offsets); fit : All FitsI32 (take l.offset-index l.offsets) }
