use Rattle.std.proofs.Common.{◌≡◌, ◌-◌}
use Rattle.class_input.specs.Reading.{each, many, one_more, seen}
use Rattle.code_tables.specs.TableReading as reading
use Rattle.code_tables.proofs.lines.line_rows.Given as goal

abbrev pub invariant-loop : goal.invariant-loop
invariant-loop l = each (l.count - l.counter) (one_more (reading.line l.starts)) l.lines (seen l.input) ≡ many l.count (reading.line l.starts) (seen l.initial.input)
