use Rattle.look_laws.proofs.Layouts.{layout_step}
use Rattle.look_laws.proofs.laws.layouts_by_superclass.Goals as goal

pub returns : goal.returns
returns c = layout_step
