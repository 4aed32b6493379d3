-- What is asked of a set before it runs. This project's own.
use Rattle.std.specs.Prelude.{List, All}
use Rattle.class_model.specs.declared.class.ClassDef.{ClassDef}
use Rattle.profile_check.specs.declared.profile.Names.TheVariants.{Written}
use Rattle.profile_check.specs.Profile.{Profile}
use Rattle.class_set.specs.Closed.{Closed}
use Rattle.verifier.specs.WholeSet.{SetVerifies}

-- a written set that loads: its classes are in the profile, it is closed, and its methods verify
pub record LoadsWell (set : List ClassDef) : Type 0 where
  pub in_profile : All (Profile Written) set
  pub closed : Closed set
  pub verifies : SetVerifies set
