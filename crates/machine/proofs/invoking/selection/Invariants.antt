use Rattle.std.proofs.Common.{◌≡◌, drop}
use Rattle.linked_code.specs.Linked.{selection}
use Rattle.machine.proofs.invoking.selection.Given as goal

abbrev pub invariant-loop-one : goal.invariant-loop-one
invariant-loop-one l = selection l.selections l.selector ≡ selection (drop l.one-index l.selections) l.selector
