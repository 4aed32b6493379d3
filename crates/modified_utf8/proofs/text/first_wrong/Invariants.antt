use Rattle.std.proofs.Common.{ℕ, List, length}
use Rattle.modified_utf8.proofs.Texts.{IsRead}
use Rattle.modified_utf8.proofs.text.first_wrong.Given as goal

abbrev pub invariant-loop-rest : goal.invariant-loop-rest
invariant-loop-rest l = (units : List ℕ) × IsRead l.bytes units l.rest

abbrev pub decreases-loop-rest : goal.decreases-loop-rest
decreases-loop-rest l = length l.rest
