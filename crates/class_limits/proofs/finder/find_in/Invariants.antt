use Rattle.class_limits.proofs.First.{NoneYet}
use Rattle.class_limits.proofs.finder.find_in.Given as goal

abbrev pub invariant-loop-item : goal.invariant-loop-item
invariant-loop-item g l = NoneYet g.F.Finder.found l.items l.item-index
