use Rattle.class_set.proofs.Assigned.{same_exact}
use Rattle.set_loader.proofs.base.is_object.Goals as goal

pub returns : goal.returns
returns c = same_exact _ _ _ c.is.ensures
