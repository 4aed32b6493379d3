use Rattle.set_lookups.specs.SameTypes.{desc_test}
use Rattle.program_links.proofs.keys.same_descs.Goals as goal

pub returns : goal.returns
returns c = desc_test c.args.desc.now c.args.other.now c.same.result c.same.ensures
