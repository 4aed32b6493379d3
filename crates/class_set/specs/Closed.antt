-- Closed sets of classes. This project's own.
use Rattle.std.specs.Prelude.{◌≡◌, List, None}
use Rattle.class_model.specs.declared.class.ClassDef.{ClassDef}
use Rattle.set_lookups.specs.Needed.{duplicate, missing}
use Rattle.set_lookups.specs.Cycle.{cycle}
use Rattle.class_set.specs.FinalSuper.{final_super}
use Rattle.class_set.specs.Core.{core}
use Rattle.class_set.specs.References.{unresolved}
use Rattle.class_set.specs.Calls.{wrong_kind}
use Rattle.class_set.specs.Open.{abstract_left}

-- no kind refuses the classes
pub record Closed (set : List ClassDef) : Type 0 where
  pub distinct : duplicate set ≡ None
  pub present : missing set ≡ None
  pub acyclic : cycle set ≡ None
  pub extendable : final_super set ≡ None
  pub core_classes : core set ≡ None
  pub resolved : unresolved set ≡ None
  pub of_right_kind : wrong_kind set ≡ None
  pub implemented : abstract_left set ≡ None
