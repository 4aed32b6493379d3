use Rattle.look_laws.proofs.Statics.{static_found}
use Rattle.look_laws.proofs.laws.static_places_by_number.Goals as goal

pub returns : goal.returns
returns c = static_found
