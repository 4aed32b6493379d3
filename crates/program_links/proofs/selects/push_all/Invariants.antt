use Rattle.std.proofs.Common.{◌≡◌, ◌++◌, take}
use Rattle.program_links.proofs.selects.push_all.Given as goal

-- the selections so far
abbrev pub invariant-loop-selection : goal.invariant-loop-selection
invariant-loop-selection l = l.selects ≡ l.fn.selects ++ take l.selection-index l.selection-items
