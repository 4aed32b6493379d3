use Rattle.look_laws.proofs.Methods.{selected_above}
use Rattle.look_laws.proofs.laws.selection_by_number.Goals as goal

pub returns : goal.returns
returns c = selected_above
