use Rattle.look_laws.proofs.Fields.{resolved_field_found}
use Rattle.look_laws.proofs.laws.fields_by_number.Goals as goal

pub returns : goal.returns
returns c = resolved_field_found
