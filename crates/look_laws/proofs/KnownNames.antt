-- The names that a set has to have, as the machine spells them.
use Rattle.std.proofs.Common.{◌≡◌, refl}
use Rattle.std.specs.Str.{chars}
use Rattle.set_lookups.specs.Lookups.{object_name}
use Rattle.class_set.specs.Core.{string_name, clinit_name}
use Rattle.run_state.specs.Texts as run

pub object_named : object_name ≡ run.object_name
unfolding chars
object_named = refl

pub string_named : string_name ≡ run.string_name
unfolding chars
string_named = refl

pub initializer_named : clinit_name ≡ run.initializer_name
unfolding chars
initializer_named = refl
