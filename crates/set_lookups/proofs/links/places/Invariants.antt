use Rattle.std.proofs.Common.{◌≡◌, take}
use Rattle.std.specs.Prelude.{filter_map}
use Rattle.set_lookups.specs.Links.{place_of}
use Rattle.set_lookups.proofs.links.places.Given as goal

abbrev pub invariant-loop-name : goal.invariant-loop-name
invariant-loop-name l = l.numbers ≡ filter_map (place_of l.names.keys) (take l.name-index l.given)
