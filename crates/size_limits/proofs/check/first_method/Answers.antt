use Rattle.std.proofs.Common.{◌∙◌, sym}
use Rattle.size_limits.proofs.First.{found_here}
use Rattle.size_limits.proofs.check.first_method.Goals as goal

pub returns-in-Some : goal.returns-in-Some
returns-in-Some g c = sym (found_here _ _ _ _ _ c.loop-at.invariant c.loop-at-test.true c.index-methods-at.is (sym c.method_passed.ensures ∙ c.in-Some.is))
