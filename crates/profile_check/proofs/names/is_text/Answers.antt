use Rattle.profile_check.proofs.Texts.{same_exact}
use Rattle.profile_check.proofs.names.is_text.Goals as goal

pub returns : goal.returns
returns c = same_exact _ _ _ c.is.ensures
