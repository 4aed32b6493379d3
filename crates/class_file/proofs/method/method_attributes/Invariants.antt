use Rattle.std.proofs.Common.{◌≡◌, ◌-◌}
use Rattle.class_input.specs.Reading.{each, seen}
use Rattle.class_attributes.specs.Attributes as grammar
use Rattle.class_attributes.specs.AttributeReading as attributes
use Rattle.class_file.specs.ClassBytes.{code_name}
use Rattle.class_file.proofs.method.method_attributes.Given as goal

-- what is left to do gives, from what was found so far, what the whole gives from nothing
abbrev pub invariant-loop : goal.invariant-loop
invariant-loop g l =
    let step = attributes.two_attribute l.pool code_name (g.C.CodeReader.code l.pool l.class l.head) grammar.exceptions (attributes.exceptions_content l.pool) in
    each (l.count - l.counter) step l.found (seen l.input) ≡ each l.count step attributes.none_found (seen l.initial.input)
