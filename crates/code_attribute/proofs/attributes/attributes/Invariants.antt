use Rattle.std.proofs.Common.{◌≡◌, ◌-◌}
use Rattle.class_input.specs.Reading.{each, seen}
use Rattle.code_attribute.specs.CodeContentReading as reading
use Rattle.code_attribute.proofs.attributes.attributes.Given as goal

-- what is left to do gives, from what was found so far, what the whole gives from nothing
abbrev pub invariant-loop : goal.invariant-loop
invariant-loop l =
    let step = reading.code_attribute l.pool l.code l.first in
    each (l.count - l.counter) step l.found (seen l.input) ≡ each l.count step reading.nothing_found (seen l.initial.input)
