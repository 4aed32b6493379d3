use Rattle.std.proofs.Common.{refl}
use Rattle.set_lookups.specs.First.{first}
use Rattle.set_lookups.specs.Lookups.{chain, supers, levels, superinterfaces, method_from, resolve_method}
use Rattle.run_state.specs.Observation.{plain_at, tagged_at, plain_obs, tagged_obs}
use Rattle.run_state.proofs.laws.sum_of_two_bytes.Goals as goal

pub returns : goal.returns
unfolding first chain supers levels superinterfaces method_from resolve_method plain_at tagged_at plain_obs tagged_obs
returns c = record { whole = refl; before = refl; alone = refl; plain = refl }
