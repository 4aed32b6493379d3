use Rattle.std.proofs.Common.{◌≡◌, ◌-◌}
use Rattle.class_input.specs.Reading.{each, seen}
use Rattle.insn_code.specs.InsnReading.{row, no_rows}
use Rattle.insn_code.proofs.switches.key_rows.Given as goal

abbrev pub invariant-loop : goal.invariant-loop
invariant-loop l = each (l.count - l.counter) row l.so_far (seen l.input) ≡ each l.count row no_rows (seen l.initial.input)
