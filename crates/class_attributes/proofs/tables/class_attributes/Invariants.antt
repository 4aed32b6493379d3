use Rattle.std.proofs.Common.{◌≡◌, ◌-◌}
use Rattle.class_input.specs.Reading.{each, seen}
use Rattle.class_attributes.specs.Attributes as grammar
use Rattle.class_attributes.specs.AttributeReading as reading
use Rattle.class_attributes.proofs.tables.class_attributes.Given as goal

-- what is left to do gives, from what was found so far, what the whole gives from nothing
abbrev pub invariant-loop : goal.invariant-loop
invariant-loop l =
    let step = reading.two_attribute l.pool grammar.source_file (reading.source_content l.pool) grammar.inner_classes (reading.inner_content l.pool) in
    each (l.count - l.counter) step l.found (seen l.input) ≡ each l.count step reading.none_found (seen l.initial.input)
