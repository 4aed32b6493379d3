use Rattle.look_laws.proofs.Initial.{main_found}
use Rattle.look_laws.proofs.laws.main_by_number.Goals as goal

pub returns : goal.returns
returns c = main_found
