use Rattle.first_form_laws.proofs.AnyOrder.{closed_swapped}
use Rattle.first_form_laws.proofs.laws.neighbours_change_places.Goals as goal

pub returns : goal.returns
returns c = closed_swapped
