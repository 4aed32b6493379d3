use Rattle.look_laws.proofs.Lineage.{classes_fit}
use Rattle.look_laws.proofs.laws.subtypes_by_number.Goals as goal

pub returns : goal.returns
returns c = classes_fit
