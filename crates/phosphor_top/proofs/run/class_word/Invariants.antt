use Rattle.std.specs.Prelude.{◌≡◌, map, take}
use Rattle.phosphor_top.specs.Commands.{slash_for_dot}
use Rattle.phosphor_top.proofs.run.class_word.Given as goal

abbrev pub invariant-loop-unit : goal.invariant-loop-unit
invariant-loop-unit l = l.units.items ≡ map slash_for_dot (take l.unit-index l.unit-items)
