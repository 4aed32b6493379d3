use Rattle.look_laws.proofs.Initial.{initializers_above}
use Rattle.look_laws.proofs.laws.initializers_by_number.Goals as goal

pub returns : goal.returns
returns c = initializers_above
