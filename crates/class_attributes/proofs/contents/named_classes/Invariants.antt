use Rattle.std.proofs.Common.{◌≡◌, ◌-◌, []}
use Rattle.class_input.specs.Reading.{each, one_more, seen}
use Rattle.class_names.specs.Steps.{at_index}
use Rattle.class_names.specs.NameReading.{class_name_at}
use Rattle.class_attributes.proofs.contents.named_classes.Given as goal

-- what is left to do gives, from the names so far, what the whole gives from none
abbrev pub invariant-loop : goal.invariant-loop
invariant-loop l =
    each (l.count - l.counter) (one_more (at_index (class_name_at l.pool))) l.names (seen l.input) ≡ each l.count (one_more (at_index (class_name_at l.pool))) [] (seen l.initial.input)
