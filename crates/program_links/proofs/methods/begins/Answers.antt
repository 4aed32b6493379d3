use Rattle.std.proofs.Common.{refl}
use Rattle.std.specs.Str.{chars}
use Rattle.program_links.proofs.methods.begins.Goals as goal

pub is_text-requires : goal.is_text-requires
unfolding chars
is_text-requires c = refl
