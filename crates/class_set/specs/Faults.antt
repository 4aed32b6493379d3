-- The kinds by which a list of classes is no closed set, in the order in which they are judged, each over all classes. This project's own rules.
use Rattle.std.specs.Prelude.{List, Option, option_map}
use Rattle.std.specs.Option.{option_or}
use Rattle.class_model.specs.declared.class.ClassDef.{ClassDef}
use Rattle.class_set.specs.declared.fault.SetFault.{SetFault}
use Rattle.class_set.specs.declared.fault.SetFault.TheVariants.{Duplicate, Missing, Cycle, FinalSuper, Core, Unresolved, WrongKind, Abstract, Memory}
use Rattle.set_lookups.specs.declared.fault.HierarchyFault.{HierarchyFault}
use Rattle.set_lookups.specs.declared.fault.HierarchyFault.TheVariants as links
use Rattle.set_lookups.specs.Needed.{duplicate, missing}
use Rattle.set_lookups.specs.Cycle.{cycle}
use Rattle.class_set.specs.FinalSuper.{final_super}
use Rattle.class_set.specs.Core.{core}
use Rattle.class_set.specs.References.{unresolved}
use Rattle.class_set.specs.Calls.{wrong_kind}
use Rattle.class_set.specs.Open.{abstract_left}

-- a fault by which classes cannot be linked, as a fault of the set
abbrev pub of_links : HierarchyFault → SetFault
of_links (links.Duplicate name) = Duplicate name
of_links (links.Missing name) = Missing name
of_links (links.Cycle name) = Cycle name
of_links links.Memory = Memory

-- the first kind that refuses classes that are linked
abbrev pub fault_of_linked : List ClassDef → Option SetFault
fault_of_linked set =
    option_or (option_map FinalSuper (final_super set))
    (option_or (option_map Core (core set))
    (option_or (option_map Unresolved (unresolved set))
    (option_or (option_map WrongKind (wrong_kind set))
    (option_map Abstract (abstract_left set)))))

-- the first kind that refuses the classes, with the name or text that is told
unfoldable pub first_fault : List ClassDef → Option SetFault
first_fault set =
    option_or (option_map Duplicate (duplicate set))
    (option_or (option_map Missing (missing set))
    (option_or (option_map Cycle (cycle set))
    (fault_of_linked set)))
