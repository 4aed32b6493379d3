use Rattle.std.proofs.Common.{◌≡◌, drop}
use Rattle.linked_code.specs.Kept.{is_among}
use Rattle.machine.proofs.catching.is_among.Given as goal

abbrev pub invariant-loop-one : goal.invariant-loop-one
invariant-loop-one l = is_among l.list l.number ≡ is_among (drop l.one-index l.list) l.number
