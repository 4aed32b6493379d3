use Rattle.std.proofs.Common.{◌≡◌, ◌++◌, drop}
use Rattle.frame_tables.specs.FrameTable.{numbered}
use Rattle.frame_tables.proofs.table.numbered.Given as goal

abbrev pub invariant-loop-number : goal.invariant-loop-number
invariant-loop-number l = l.types ++ numbered l.number (drop l.number l.first) ≡ numbered 0 l.first
