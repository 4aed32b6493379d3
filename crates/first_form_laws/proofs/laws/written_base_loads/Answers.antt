use Rattle.first_form_laws.proofs.Loads.{base_loads}
use Rattle.first_form_laws.proofs.laws.written_base_loads.Goals as goal

pub returns : goal.returns
returns c = base_loads
