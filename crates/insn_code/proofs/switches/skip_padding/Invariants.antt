use Rattle.std.proofs.Common.{◌≡◌, ◌-◌}
use Rattle.class_input.specs.Reading.{each, seen}
use Rattle.opcode_table.specs.Fields.{padding}
use Rattle.insn_code.specs.InsnReading.{any_byte, pad}
use Rattle.insn_code.proofs.switches.skip_padding.Given as goal

abbrev pub invariant-loop : goal.invariant-loop
invariant-loop l = each (padding l.fn.pc - l.counter) any_byte tt (seen l.input) ≡ pad l.fn.pc (seen l.initial.input)
