use Rattle.std.proofs.Common.{◌≡◌, take}
use Rattle.machine.specs.Placed.{characters}
use Rattle.machine.proofs.literals.elements.Given as goal

abbrev pub invariant-loop-unit : goal.invariant-loop-unit
invariant-loop-unit g l = l.cells.items ≡ characters g.T.Tag.none_of (take l.unit-index l.units)
