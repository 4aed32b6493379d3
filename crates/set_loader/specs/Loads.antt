-- The set of classes that files are, and the first refusal of files that are none. This project's own.
use Rattle.std.specs.Prelude.{◌≡◌, ℕ, ◌<◌, Bool, List, ◌++◌, slice_get, take, All, Some, Err, if◌then◌else◌}
use Rattle.std.specs.List.{AllZip, list_any}
use Rattle.class_input.specs.declared.bad_class.BadKind.{BadKind}
use Rattle.class_model.specs.declared.class.MethodDef.{MethodDef}
use Rattle.class_model.specs.declared.class.ClassDef.{ClassDef}
use Rattle.class_model.specs.Descriptor.{method_descriptor}
use Rattle.class_file.specs.ClassReading.{file}
use Rattle.code_attribute.specs.CodeContentReading.{code_content}
use Rattle.code_attribute.specs.WholeClass.{IsClassFile}
use Rattle.profile_check.specs.declared.profile.Names.{Names}
use Rattle.profile_check.specs.declared.profile.OutOfProfile.{OutOfProfile}
use Rattle.profile_check.specs.Profile.{Profile, FirstProfile}
use Rattle.small_base.specs.Members.{object_name}
use Rattle.small_base.specs.Base.{small_base}
use Rattle.set_lookups.specs.Above.{same_name}
use Rattle.set_lookups.specs.declared.ids.MethodId.{MethodId}
use Rattle.class_set.specs.declared.fault.SetFault.{SetFault}
use Rattle.class_set.specs.Closed.{Closed}
use Rattle.class_set.specs.Faults.{first_fault}
use Rattle.type_rows.specs.declared.rule.VerifyRule.{VerifyRule}
use Rattle.verifier.specs.WholeSet.{SetVerifies, FirstInSet}
use Rattle.set_loader.specs.declared.file.File.{File}
use Rattle.set_loader.specs.declared.stop.LoadStop.{LoadStop}
use Rattle.set_loader.specs.declared.stop.LoadStop.TheVariants as stops

-- bytes are no class file, with the first bad place and its kind
abbrev pub IsBad : List ℕ → ℕ → BadKind → Type 0
IsBad bytes place kind = file code_content bytes ≡ Err (record { place = place; kind = kind })

-- a file is a class file of this class
abbrev pub IsFileOf : File → ClassDef → Type 0
IsFileOf file class = IsClassFile file.bytes class

-- ---- the set of files

-- a class is named `java/lang/Object`
unfoldable pub has_object : List ClassDef → Bool
has_object classes = list_any (λ class. same_name class.name object_name) classes

-- the small base stands behind classes of which none is `java/lang/Object`
unfoldable pub with_base : List ClassDef → List ClassDef
with_base classes = if has_object classes then classes else classes ++ small_base

-- The files are class files, and the set is their classes with the base. Each class of a file is in the profile, the set is closed, and each method with code verifies.
pub record Loads (names : Names) (files : List File) (set : List ClassDef) : Type 0 where
  pub classes : List ClassDef
  pub read : AllZip IsFileOf files classes
  pub in_profile : All (Profile names) classes
  pub completed : set ≡ with_base classes
  pub closed : Closed set
  pub verified : SetVerifies set

-- ---- refusals, judged in four passes, each over all files

-- a file is a class file
abbrev pub Decodes : File → Type 0
Decodes file = (class : ClassDef) × IsFileOf file class

-- the first file that is no class file, by its number, with its first bad place
pub record IsFirstBad (files : List File) (number place : ℕ) (kind : BadKind) : Type 0 where
  pub file : File
  pub stands : slice_get files number ≡ Some file
  pub earlier : All Decodes (take number files)
  pub bad : IsBad file.bytes place kind

-- the first class out of the profile, by its number, with the first row that refuses it
pub record IsFirstOut (names : Names) (classes : List ClassDef) (number : ℕ) (fault : OutOfProfile) : Type 0 where
  pub class : ClassDef
  pub stands : slice_get classes number ≡ Some class
  pub earlier : All (Profile names) (take number classes)
  pub out : FirstProfile names class fault

-- all files are class files, and this is the first whose class is out of the profile
pub record IsOut (names : Names) (files : List File) (number : ℕ) (fault : OutOfProfile) : Type 0 where
  pub classes : List ClassDef
  pub read : AllZip IsFileOf files classes
  pub first : IsFirstOut names classes number fault

-- all files are class files, with classes in the profile, and this is the first fault of their set
pub record IsFaulty (names : Names) (files : List File) (fault : SetFault) : Type 0 where
  pub classes : List ClassDef
  pub read : AllZip IsFileOf files classes
  pub in_profile : All (Profile names) classes
  pub first : first_fault (with_base classes) ≡ Some fault

-- a method of a set has these names: of its class, its own, and the text of its descriptor
pub record IsNamed (set : List ClassDef) (id : MethodId) (class name desc : List ℕ) : Type 0 where
  pub owner : ClassDef
  pub stands : slice_get set id.class ≡ Some owner
  pub method : MethodDef
  pub declared : slice_get owner.methods id.index ≡ Some method
  pub class_is : class ≡ owner.name
  pub name_is : name ≡ method.name
  pub desc_is : desc ≡ method_descriptor method.desc

-- the first method of a set that does not verify has these names, with the first instruction that fails and the first rule that fails there
pub record IsFirstFailing (set : List ClassDef) (class name desc : List ℕ) (at : ℕ) (rule : VerifyRule) : Type 0 where
  pub id : MethodId
  pub first : FirstInSet set id at rule
  pub named : IsNamed set id class name desc

-- all files are class files, with classes in the profile, their set is closed, and this is its first method that does not verify
pub record IsUnverified (names : Names) (files : List File) (class name desc : List ℕ) (at : ℕ) (rule : VerifyRule) : Type 0 where
  pub classes : List ClassDef
  pub read : AllZip IsFileOf files classes
  pub in_profile : All (Profile names) classes
  pub closed : Closed (with_base classes)
  pub first : IsFirstFailing (with_base classes) class name desc at rule

-- the refusal of files that do not load; want of memory may come with any
abbrev pub Refuses : Names → List File → LoadStop → Type 0
Refuses names files (stops.Bad number place kind) = IsFirstBad files number place kind
Refuses names files (stops.Profile number fault) = IsOut names files number fault
Refuses names files (stops.Set fault) = IsFaulty names files fault
Refuses names files (stops.Unverified class name desc at rule) = IsUnverified names files class name desc at rule
Refuses names files stops.Memory = Unit {0}

-- a refusal that depends on the files alone
abbrev pub IsDue : LoadStop → Type 0
IsDue (stops.Bad number place kind) = Unit {0}
IsDue (stops.Profile number fault) = Unit {0}
IsDue (stops.Set fault) = Unit {0}
IsDue (stops.Unverified class name desc at rule) = Unit {0}
IsDue stops.Memory = ⊥

-- the file that a refusal tells, if it tells one, is one of so many
abbrev pub IsWithin : LoadStop → ℕ → Type 0
IsWithin (stops.Bad number place kind) count = number < count
IsWithin (stops.Profile number fault) count = number < count
IsWithin (stops.Set fault) count = Unit {0}
IsWithin (stops.Unverified class name desc at rule) count = Unit {0}
IsWithin stops.Memory count = Unit {0}
