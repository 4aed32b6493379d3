use Rattle.std.proofs.Common.{◌≡◌}
use Rattle.opcode_table.specs.Fields.{rows_at}
use Rattle.opcode_table.proofs.switches.rows.Given as goal

abbrev pub invariant-loop-k : goal.invariant-loop-k
invariant-loop-k l = l.rows ≡ rows_at l.text l.at l.k
