use Rattle.std.proofs.Common.{refl}
use Rattle.std.specs.Str.{chars}
use Rattle.program_links.proofs.natives.is_write.Goals as goal

pub is_text-requires : goal.is_text-requires
unfolding chars
is_text-requires c = refl

pub is_text-requires-then-is_text : goal.is_text-requires-then-is_text
unfolding chars
is_text-requires-then-is_text c = refl
