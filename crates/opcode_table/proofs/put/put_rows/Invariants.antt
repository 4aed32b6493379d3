use Rattle.std.proofs.Common.{◌≡◌, ◌++◌, take, All}
use Rattle.std.specs.List.{flat_map}
use Rattle.opcode_table.specs.Writing.{row_bytes, RowFits}
use Rattle.opcode_table.proofs.put.put_rows.Given as goal

abbrev pub invariant-loop-key : goal.invariant-loop-key
invariant-loop-key l = record { text : l.out.items ≡ l.initial.out.items ++ flat_map row_bytes (take l.key-index l.rows); fit : All RowFits (take l.key-index l.rows) }
