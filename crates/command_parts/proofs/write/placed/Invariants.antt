use Rattle.std.proofs.Common.{◌≡◌, ◌++◌, map}
use Rattle.std.specs.Vec.Iter.{into_iter_items}
use Rattle.command_parts.specs.Writing.{placed}
use Rattle.command_parts.proofs.write.placed.Given as goal

-- the files so far have their whole paths
abbrev pub invariant-loop-path : goal.invariant-loop-path
invariant-loop-path l = l.whole.items ++ map (placed l.dir) (into_iter_items l.path-iterator) ≡ map (placed l.dir) l.fn.files.items
