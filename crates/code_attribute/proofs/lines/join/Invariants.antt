use Rattle.std.proofs.Common.{◌≡◌, ◌++◌, take}
use Rattle.code_attribute.proofs.lines.join.Given as goal

abbrev pub invariant-loop-row : goal.invariant-loop-row
invariant-loop-row l = l.lines ≡ l.initial.lines ++ take l.row-index l.more
