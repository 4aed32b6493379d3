use Rattle.std.proofs.Common.{◌≡◌, ◌+◌, ◌-◌, ◌*◌}
use Rattle.opcode_table.specs.Judging.{has_low_key}
use Rattle.opcode_table.proofs.switches.low_key.Given as goal

abbrev pub invariant-loop-k : goal.invariant-loop-k
invariant-loop-k l = has_low_key l.text (l.at + 8 * (l.k - 1)) (l.count - (l.k - 1)) ≡ has_low_key l.text l.at l.count
