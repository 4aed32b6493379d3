use Rattle.look_laws.proofs.Layouts.{place_found}
use Rattle.look_laws.proofs.laws.field_places_by_number.Goals as goal

pub returns : goal.returns
returns c = place_found
