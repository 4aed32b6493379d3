use Rattle.std.proofs.Common.{◌≡◌, ◌-◌, None}
use Rattle.class_input.specs.Reading.{each, seen}
use Rattle.class_attributes.specs.Attributes as grammar
use Rattle.class_attributes.specs.AttributeReading as reading
use Rattle.class_attributes.proofs.tables.field_attributes.Given as goal

-- what is left to do gives, from what was found so far, what the whole gives from nothing
abbrev pub invariant-loop : goal.invariant-loop
invariant-loop l =
    let step = reading.one_attribute l.pool grammar.constant_value (reading.constant_content l.pool) in
    each (l.count - l.counter) step l.found (seen l.input) ≡ each l.count step None (seen l.initial.input)
