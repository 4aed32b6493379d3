use Rattle.std.proofs.Common.{◌≡◌, ◌-◌}
use Rattle.class_input.specs.Reading.{each, many, one_more, seen}
use Rattle.code_tables.specs.TableReading as reading
use Rattle.code_tables.proofs.handlers.handler_rows.Given as goal

abbrev pub invariant-loop : goal.invariant-loop
invariant-loop l = each (l.count - l.counter) (one_more (reading.handler l.pool l.starts)) l.handlers (seen l.input) ≡ many l.count (reading.handler l.pool l.starts) (seen l.initial.input)
