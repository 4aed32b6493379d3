use Rattle.std.proofs.Common.{take}
use Rattle.class_set.specs.Upwards.{HoldsFinals}
use Rattle.class_set.proofs.final_super.final_names.Given as goal

-- the classes so far have added their names
abbrev pub invariant-loop-class : goal.invariant-loop-class
invariant-loop-class l = HoldsFinals l.names.keys (take l.class-index l.classes)
