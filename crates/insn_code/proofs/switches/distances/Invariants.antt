use Rattle.std.proofs.Common.{◌≡◌, ◌-◌}
use Rattle.class_input.specs.Reading.{each, many, one_more, seen}
use Rattle.insn_code.specs.InsnReading.{signed}
use Rattle.insn_code.proofs.switches.distances.Given as goal

abbrev pub invariant-loop : goal.invariant-loop
invariant-loop l = each (l.count - l.counter) (one_more signed) l.distances (seen l.input) ≡ many l.count signed (seen l.initial.input)
