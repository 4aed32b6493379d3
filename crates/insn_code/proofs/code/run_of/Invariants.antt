use Rattle.std.proofs.Common.{◌≡◌, ◌+◌, ◌-◌, ◌≤◌, length}
use Rattle.class_input.specs.Reading.{each, seen}
use Rattle.insn_code.specs.CodeReading.{next, no_insn}
use Rattle.insn_code.proofs.code.run_of.Given as goal

abbrev pub invariant-loop : goal.invariant-loop
invariant-loop l = record {
  reads : each (l.len - l.counter) (next l.pool) l.run (seen l.input) ≡ each l.len (next l.pool) no_insn (seen l.initial.input);
  room : l.run.starts.size + length l.input.rest.now ≤ 65535;
}
