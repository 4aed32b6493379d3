use Rattle.std.proofs.Common.{◌≡◌, ◌++◌, map, take}
use Rattle.frame_tables.specs.FirstFrame.{receiver, param_type}
use Rattle.frame_tables.proofs.first.first_types.Given as goal

abbrev pub invariant-loop-param : goal.invariant-loop-param
invariant-loop-param l = l.types ≡ receiver l.class l.head ++ map param_type (take l.param-index l.head.desc.params)
