use Rattle.std.proofs.Common.{refl}
use Rattle.set_lookups.specs.First.{first}
use Rattle.set_lookups.specs.Lookups.{chain, supers, levels, superinterfaces, method_from, resolve_method}
use Rattle.run_state.specs.Observation.{tagged_at, tagged_obs}
use Rattle.run_state.proofs.laws.worked_programs.Goals as goal

pub returns : goal.returns
unfolding first chain supers levels superinterfaces method_from resolve_method tagged_at tagged_obs
returns c = record {
  begins = refl;
  fails = refl;
  catches = refl;
  ints = refl;
  long = refl;
  negative = refl;
  moves = refl;
  overridden = refl;
}
