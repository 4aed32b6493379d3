use Rattle.std.specs.Str.{chars}
use Rattle.small_base.specs.Base.{small_base}
use Rattle.small_base.proofs.base.is_base_name.Goals as goal

pub returns : goal.returns
unfolding chars small_base
returns c = c.is_named.ensures
