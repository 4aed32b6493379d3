use Rattle.std.proofs.Common.{◌≡◌, drop}
use Rattle.machine.specs.Placed.{placed_by}
use Rattle.machine.proofs.literals.placed.Given as goal

abbrev pub invariant-loop-literal : goal.invariant-loop-literal
invariant-loop-literal l = placed_by l.literals l.text ≡ placed_by (drop l.literal-index l.literals) l.text
