use Rattle.class_set.proofs.Assigned.{same_exact}
use Rattle.class_set.proofs.assignable.is_object_name.Goals as goal

pub returns : goal.returns
returns c = same_exact _ _ _ c.is.ensures
