use Rattle.std.proofs.Common.{◌≡◌, ◌++◌, take, drop}
use Rattle.instrument_set.specs.WrittenSet.{insert_class}
use Rattle.instrument_set.proofs.set.place_of.Given as goal

-- the class comes behind those that were passed
abbrev pub invariant-loop-at : goal.invariant-loop-at
invariant-loop-at l = take l.at l.classes ++ insert_class l.class (drop l.at l.classes) ≡ insert_class l.class l.classes
