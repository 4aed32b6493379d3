use Rattle.std.proofs.Common.{◌≡◌, ◌-◌, []}
use Rattle.class_input.specs.Reading.{each, one_more, seen}
use Rattle.class_attributes.specs.AttributeReading as reading
use Rattle.class_attributes.proofs.contents.inner_rows.Given as goal

-- what is left to do gives, from the rows so far, what the whole gives from none
abbrev pub invariant-loop : goal.invariant-loop
invariant-loop l =
    each (l.count - l.counter) (one_more (reading.inner_row l.pool)) l.rows (seen l.input) ≡ each l.count (one_more (reading.inner_row l.pool)) [] (seen l.initial.input)
