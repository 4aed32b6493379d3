-- What a pass over the classes answers, want of memory aside.
use Rattle.std.specs.Prelude.{◌≡◌, Option, Some}
use Rattle.class_set.specs.declared.fault.SetFault.{SetFault}
use Rattle.class_set.specs.declared.fault.SetFault.TheVariants.{Duplicate, Missing, Cycle, FinalSuper, Core, Unresolved, WrongKind, Abstract, Memory}

-- a fault other than want of memory is the one that is found
abbrev pub IsFault : Option SetFault → SetFault → Type 0
IsFault found Memory = Unit {0}
IsFault found (Duplicate name) = found ≡ Some (Duplicate name)
IsFault found (Missing name) = found ≡ Some (Missing name)
IsFault found (Cycle name) = found ≡ Some (Cycle name)
IsFault found (FinalSuper name) = found ≡ Some (FinalSuper name)
IsFault found (Core name) = found ≡ Some (Core name)
IsFault found (Unresolved text) = found ≡ Some (Unresolved text)
IsFault found (WrongKind text) = found ≡ Some (WrongKind text)
IsFault found (Abstract name) = found ≡ Some (Abstract name)
