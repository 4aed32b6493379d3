use Rattle.look_laws.proofs.Superclasses.{superclasses_named}
use Rattle.look_laws.proofs.laws.superclasses_by_number.Goals as goal

pub returns : goal.returns
returns c = superclasses_named
