use Rattle.std.proofs.Common.{◌≡◌, length}
use Rattle.std.specs.Prelude.{flat_map}
use Rattle.set_lookups.specs.Level.{closer, nearest}
use Rattle.set_lookups.specs.Lookups as look
use Rattle.set_lookups.proofs.hierarchy.Hierarchy.find_in_interfaces.Given as goal

-- the nearest so far, and that of the superclasses from here on
abbrev pub invariant-loop-next : goal.invariant-loop-next
invariant-loop-next l =
    let up = look.interfaces_at l.self in
    let near = nearest (length l.self) up (look.declared l.self l.name l.desc look.any_method) in
    near (flat_map up (look.supers l.self l.start)) ≡ closer l.best (near (flat_map up (look.supers l.self l.at)))

abbrev pub decreases-loop-next : goal.decreases-loop-next
decreases-loop-next l = length (look.supers l.self l.at)
