-- What a pass over the classes answers, want of memory aside. This project's own rules.
use Rattle.std.specs.Prelude.{◌≡◌, List, Option, Some, option_map}
use Rattle.std.specs.Option.{option_or}
use Rattle.class_model.specs.declared.class.ClassDef.{ClassDef}
use Rattle.set_lookups.specs.declared.fault.HierarchyFault.{HierarchyFault}
use Rattle.set_lookups.specs.declared.fault.HierarchyFault.TheVariants.{Duplicate, Missing, Cycle, Memory}
use Rattle.set_lookups.specs.Needed.{duplicate, missing}
use Rattle.set_lookups.specs.Cycle.{cycle}

-- a fault other than want of memory is the one that is found
abbrev pub IsFault : Option HierarchyFault → HierarchyFault → Type 0
IsFault found Memory = Unit {0}
IsFault found (Duplicate name) = found ≡ Some (Duplicate name)
IsFault found (Missing name) = found ≡ Some (Missing name)
IsFault found (Cycle name) = found ≡ Some (Cycle name)

-- the first kind by which classes cannot be linked, with the name that is told
unfoldable pub link_fault : List ClassDef → Option HierarchyFault
link_fault set = option_or (option_map Duplicate (duplicate set)) (option_or (option_map Missing (missing set)) (option_map Cycle (cycle set)))
