use Rattle.std.proofs.Common.{lit<}
use Rattle.set_lookups.specs.Above.{same_name}
use Rattle.set_lookups.proofs.Places.{fits}
use Rattle.set_lookups.proofs.links.place.Goals as goal

pub number_of-requires : goal.number_of-requires
number_of-requires c = fits (same_name c.args.name.now) c.args.names.now.keys 1001000 _ c.get_index_of.ensures.index c.requires (lit< tt)
