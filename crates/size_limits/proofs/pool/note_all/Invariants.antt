use Rattle.size_limits.proofs.Noted.{NotedTo}
use Rattle.size_limits.proofs.pool.note_all.Given as goal

abbrev pub invariant-loop-named : goal.invariant-loop-named
invariant-loop-named g l = NotedTo g.N.Names.items l.initial.count l.all l.named-index l.count
