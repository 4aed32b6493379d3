use Rattle.lists.proofs.Units.{behind_is}
use Rattle.lists.proofs.texts.behind.Goals as goal

pub returns : goal.returns
returns c = behind_is c.args.units.now c.args.front.now c.strip_prefix.result c.strip_prefix.ensures.cases
