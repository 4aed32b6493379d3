use Rattle.std.proofs.Common.{◌≡◌}
use Rattle.opcode_table.specs.Fields.{offsets_at}
use Rattle.opcode_table.proofs.switches.offsets.Given as goal

abbrev pub invariant-loop-k : goal.invariant-loop-k
invariant-loop-k l = l.offsets ≡ offsets_at l.text l.at l.k
