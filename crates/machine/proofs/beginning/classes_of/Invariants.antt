use Rattle.std.proofs.Common.{◌≡◌, ◌++◌, [], drop}
use Rattle.machine.specs.Beginning.{with_classes}
use Rattle.machine.proofs.beginning.classes_of.Given as goal

abbrev pub invariant-loop-number : goal.invariant-loop-number
invariant-loop-number g l = l.classes ++ with_classes l.program (drop l.number-index l.numbers) [] ≡ with_classes l.program l.numbers []
