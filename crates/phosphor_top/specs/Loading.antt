-- The load of a folder, and where it is refused. This project's own order: how many files the folder holds, how long its
-- class files are, what they load as.
use Rattle.std.specs.Prelude.{◌≡◌, ℕ, List, ⊤}
use Rattle.outside_io.specs.Files.{Files}
use Rattle.class_model.specs.declared.class.ClassDef.{ClassDef}
use Rattle.profile_check.specs.declared.profile.Names.{Names}
use Rattle.set_loader.specs.declared.file.File.{File}
use Rattle.set_loader.specs.declared.stop.LoadStop.{LoadStop}
use Rattle.set_loader.specs.Loads.{Loads, IsDue}
use Rattle.set_loader.specs.Loads as loading
use Rattle.command_parts.specs.Folders.{HasMany, ReadsClassFiles, FirstLong}
use Rattle.command_parts.specs.LoadLines.{load_line}
use Rattle.command_parts.specs.declared.stop.Stop.{Stop}
use Rattle.command_parts.specs.declared.stop.Stop.TheVariants.{ListFault, ReadFault, TooManyFiles, FileTooLong, NotLoaded, Memory}

-- the class files of a folder load as this set
pub record LoadsFrom (names : Names) (files : Files) (dir : List ℕ) (set : List ClassDef) : Type 0 where
  pub list : List File
  pub read : ReadsClassFiles files dir list
  pub loads : Loads names list set

-- class files do not load, and the line tells why
pub record TellsLoad (names : Names) (list : List File) (line : List ℕ) : Type 0 where
  pub stop : LoadStop
  pub due : IsDue stop
  pub refused : loading.Refuses names list stop
  pub line_is : line ≡ load_line list stop

-- files that were read do not load
abbrev pub RefusesFiles : Names → List File → Stop → Type 0
RefusesFiles names list (NotLoaded line) = TellsLoad names list line
RefusesFiles names list Memory = ⊤
RefusesFiles names list _ = ⊥

-- the class files of a folder do not load, and the line tells why
pub record IsNotLoaded (names : Names) (files : Files) (dir line : List ℕ) : Type 0 where
  pub list : List File
  pub read : ReadsClassFiles files dir list
  pub tells : TellsLoad names list line

-- a folder is not loaded
abbrev pub RefusesLoad : Names → Files → (dir : List ℕ) → Stop → Type 0
RefusesLoad names files dir (TooManyFiles at) = (at ≡ dir) × HasMany files dir
RefusesLoad names files dir (FileTooLong whole) = FirstLong files dir whole
RefusesLoad names files dir (NotLoaded line) = IsNotLoaded names files dir line
RefusesLoad names files dir (ListFault at) = ⊤
RefusesLoad names files dir (ReadFault path) = ⊤
RefusesLoad names files dir Memory = ⊤
RefusesLoad names files dir _ = ⊥
