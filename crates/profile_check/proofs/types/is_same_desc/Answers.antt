use Rattle.profile_check.proofs.SameTypes.{same_desc_exact}
use Rattle.profile_check.proofs.types.is_same_desc.Goals as goal

pub returns : goal.returns
returns c = same_desc_exact _ _ _ c.same.ensures
