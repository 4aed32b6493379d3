-- What each pass over the files knows, and what it refuses.
use Rattle.std.specs.Prelude.{◌≡◌, ℕ, List, Some}
use Rattle.class_model.specs.declared.class.ClassDef.{ClassDef}
use Rattle.class_model.specs.Descriptor.{IsClassName}
use Rattle.class_shape.specs.Shaped.{Shaped}
use Rattle.class_set.specs.declared.fault.SetFault.{SetFault}
use Rattle.class_set.specs.declared.fault.SetFault.TheVariants as faults
use Rattle.class_set.specs.Faults.{first_fault}
use Rattle.profile_check.specs.declared.profile.Names.{Names}
use Rattle.profile_check.specs.Profile.{IsCounted}
use Rattle.set_loader.specs.declared.file.File.{File}
use Rattle.set_loader.specs.declared.stop.LoadStop.{LoadStop}
use Rattle.set_loader.specs.declared.stop.LoadStop.TheVariants as stops
use Rattle.set_loader.specs.Loads.{IsBad, IsFileOf, IsFirstBad, IsFirstOut, IsFirstFailing}

-- ---- decoding

-- what is known of a class that was read from a file
pub record IsReadFrom (file : File) (class : ClassDef) : Type 0 where
  pub is : IsFileOf file class
  pub counted : IsCounted class
  pub shaped : IsClassName class.name → Shaped class

-- a file of this number is no class file; want of memory may come with any
abbrev pub RefusesFile : ℕ → File → LoadStop → Type 0
RefusesFile number file (stops.Bad told place kind) = (told ≡ number) × IsBad file.bytes place kind
RefusesFile number file (stops.Profile told fault) = ⊥
RefusesFile number file (stops.Set fault) = ⊥
RefusesFile number file (stops.Unverified class name desc at rule) = ⊥
RefusesFile number file stops.Memory = Unit {0}

-- one of the files is no class file
abbrev pub RefusesDecoding : List File → LoadStop → Type 0
RefusesDecoding files (stops.Bad number place kind) = IsFirstBad files number place kind
RefusesDecoding files (stops.Profile number fault) = ⊥
RefusesDecoding files (stops.Set fault) = ⊥
RefusesDecoding files (stops.Unverified class name desc at rule) = ⊥
RefusesDecoding files stops.Memory = Unit {0}

-- ---- profile

-- one of the classes is out of the profile
abbrev pub RefusesProfile : Names → List ClassDef → LoadStop → Type 0
RefusesProfile names classes (stops.Bad number place kind) = ⊥
RefusesProfile names classes (stops.Profile number fault) = IsFirstOut names classes number fault
RefusesProfile names classes (stops.Set fault) = ⊥
RefusesProfile names classes (stops.Unverified class name desc at rule) = ⊥
RefusesProfile names classes stops.Memory = Unit {0}

-- ---- set

-- a fault of a set is told as it is, want of memory as that of the load
abbrev pub of_fault : SetFault → LoadStop
of_fault faults.Memory = stops.Memory
of_fault fault = stops.Set fault

-- the set is not closed
abbrev pub RefusesSet : List ClassDef → LoadStop → Type 0
RefusesSet set (stops.Bad number place kind) = ⊥
RefusesSet set (stops.Profile number fault) = ⊥
RefusesSet set (stops.Set fault) = first_fault set ≡ Some fault
RefusesSet set (stops.Unverified class name desc at rule) = ⊥
RefusesSet set stops.Memory = Unit {0}

-- ---- types

-- one of the methods does not verify
abbrev pub RefusesTypes : List ClassDef → LoadStop → Type 0
RefusesTypes set (stops.Bad number place kind) = ⊥
RefusesTypes set (stops.Profile number fault) = ⊥
RefusesTypes set (stops.Set fault) = ⊥
RefusesTypes set (stops.Unverified class name desc at rule) = IsFirstFailing set class name desc at rule
RefusesTypes set stops.Memory = Unit {0}
