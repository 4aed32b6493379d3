use Rattle.std.proofs.Common.{◌≡◌, ◌++◌}
use Rattle.std.specs.List.{filter}
use Rattle.std.specs.Vec.Iter.{into_iter_items}
use Rattle.command_parts.specs.Folders.{is_class_path}
use Rattle.command_parts.proofs.reading.class_paths.Given as goal

-- those so far and those to come are those of all paths
abbrev pub invariant-loop-path : goal.invariant-loop-path
invariant-loop-path l = l.classes.items ++ filter is_class_path (into_iter_items l.path-iterator) ≡ filter is_class_path l.fn.paths
