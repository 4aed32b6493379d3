use Rattle.std.proofs.Common.{length}
use Rattle.modified_utf8.proofs.Texts.{IsRead}
use Rattle.modified_utf8.proofs.text.each_unit.Given as goal

abbrev pub invariant-loop-rest : goal.invariant-loop-rest
invariant-loop-rest l = IsRead l.bytes l.units.items l.rest

abbrev pub decreases-loop-rest : goal.decreases-loop-rest
decreases-loop-rest l = length l.rest
