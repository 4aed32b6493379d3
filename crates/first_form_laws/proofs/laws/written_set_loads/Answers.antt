use Rattle.first_form_laws.proofs.Loads.{set_loads}
use Rattle.first_form_laws.proofs.laws.written_set_loads.Goals as goal

pub returns : goal.returns
returns c = set_loads
