use Rattle.set_lookups.specs.SameTypes.{types_test}
use Rattle.set_lookups.proofs.member_key.same_types.Goals as goal

pub returns : goal.returns
returns c = types_test c.args.types.now c.args.others.now c.same.result c.same.ensures
