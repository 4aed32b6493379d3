use Rattle.std.proofs.Common.{◌≡◌, ◌-◌, []}
use Rattle.class_input.specs.Reading.{each, one_more, seen}
use Rattle.class_file.specs.ClassReading as reading
use Rattle.class_file.proofs.field.fields.Given as goal

-- what is left to do gives, from the fields so far, what the whole gives from none
abbrev pub invariant-loop : goal.invariant-loop
invariant-loop l = each (l.count - l.counter) (one_more (reading.field l.pool)) l.fields (seen l.input) ≡ each l.count (one_more (reading.field l.pool)) [] (seen l.initial.input)
