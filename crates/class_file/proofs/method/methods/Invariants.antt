use Rattle.std.proofs.Common.{◌≡◌, ◌-◌, []}
use Rattle.class_input.specs.Reading.{each, one_more, seen}
use Rattle.class_file.specs.ClassReading as reading
use Rattle.class_file.proofs.method.methods.Given as goal

-- what is left to do gives, from the methods so far, what the whole gives from none
abbrev pub invariant-loop : goal.invariant-loop
invariant-loop g l =
    let step = one_more (reading.method g.C.CodeReader.code l.pool l.class) in
    each (l.count - l.counter) step l.methods (seen l.input) ≡ each l.count step [] (seen l.initial.input)
