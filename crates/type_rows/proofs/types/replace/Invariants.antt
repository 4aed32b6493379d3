use Rattle.std.proofs.Common.{◌≡◌}
use Rattle.type_rows.specs.Calls.{turned}
use Rattle.type_rows.proofs.Lists.{map_front}
use Rattle.type_rows.proofs.types.replace.Given as goal

abbrev pub invariant-loop-i : goal.invariant-loop-i
invariant-loop-i l = l.types ≡ map_front (turned l.old l.new) l.i l.initial.types
