use Rattle.std.specs.Prelude.{length}
use Rattle.phosphor_top.proofs.words.+are_digits.Given as goal

abbrev pub decreases-are_digits : goal.decreases-are_digits
decreases-are_digits l = length l.bytes.now
