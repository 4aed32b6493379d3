use Rattle.std.proofs.Common.{sym}
use Rattle.class_limits.proofs.First.{found_here}
use Rattle.class_limits.proofs.finder.find_in.Goals as goal

pub returns-in-Some : goal.returns-in-Some
returns-in-Some g c = sym (found_here g.F.Finder.found _ _ _ _ c.loop-item.invariant c.loop-item-test.true c.item-item.is (sym c.in-Some.ensures))
