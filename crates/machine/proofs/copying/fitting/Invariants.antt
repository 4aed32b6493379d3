use Rattle.std.proofs.Common.{◌≡◌, ◌++◌, drop}
use Rattle.machine.specs.Copied.{fitting_by}
use Rattle.machine.proofs.copying.fitting.Given as goal

abbrev pub invariant-loop-word : goal.invariant-loop-word
invariant-loop-word g l = l.taken.items ++ fitting_by l.program l.heap l.ty (drop l.word-index l.cells) ≡ fitting_by l.program l.heap l.ty l.cells
