use Rattle.std.proofs.Common.{◌≡◌, map, take}
use Rattle.set_lookups.specs.Links.{row_of}
use Rattle.set_lookups.proofs.links.link_all.Given as goal

abbrev pub invariant-loop-class : goal.invariant-loop-class
invariant-loop-class l = l.rows ≡ map (row_of l.names.keys) (take l.class-index l.classes)
