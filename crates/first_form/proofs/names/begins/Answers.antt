use Rattle.lists.proofs.Units.{behind_is}
use Rattle.first_form.proofs.Naming.{begins_is}
use Rattle.first_form.proofs.names.begins.Goals as goal

pub returns : goal.returns
returns c =
    begins_is c.args.units.now c.args.front.now c.strip_prefix.result c.is_some.result
    (behind_is c.args.units.now c.args.front.now c.strip_prefix.result c.strip_prefix.ensures.cases) c.is_some.ensures
