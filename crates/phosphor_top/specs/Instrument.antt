-- The command `instrument`: its verdict, and what it leaves. This project's own order: the load of the folder that is
-- read; the lists; the folder that is written; what is not built yet.
use Rattle.std.specs.Prelude.{◌≡◌, ℕ, List, ◌⊎◌, map, slice_get, Some, Result, Ok, Err, ⊤}
use Rattle.outside_io.specs.Files.{Files}
use Rattle.class_model.specs.declared.class.ClassDef.{ClassDef}
use Rattle.run_state.specs.declared.config.Config.{Config}
use Rattle.profile_check.specs.declared.profile.Names.TheVariants as names
use Rattle.first_form.specs.FirstSet.{IsFirstSet, IsNotBuilt}
use Rattle.set_loader.specs.declared.file.File.{File}
use Rattle.instrument_set.specs.WrittenPaths.{written_paths}
use Rattle.instrument_set.specs.Mirrors.{IsInstrumented}
use Rattle.command_parts.specs.Folders.{ClassFiles, IsEmpty, RefusesFull}
use Rattle.command_parts.specs.Writing.{placed, with_files, StopsAt}
use Rattle.command_parts.specs.declared.stop.Stop.{Stop}
use Rattle.command_parts.specs.declared.stop.Stop.TheVariants.{WriteFault, NotBuilt, Memory}
use Rattle.phosphor_top.specs.Commands.{Paths}
use Rattle.phosphor_top.specs.Loading.{LoadsFrom, RefusesLoad}
use Rattle.phosphor_top.specs.Configuring.{Configures, RefusesConfig}

-- ---- the verdict

-- the class of this name is the first of a set that is not built yet
pub record TellsNotBuilt (set : List ClassDef) (name : List ℕ) : Type 0 where
  pub number : ℕ
  pub class : ClassDef
  pub first : IsNotBuilt set number
  pub stands : slice_get set number ≡ Some class
  pub named : name ≡ class.name

-- a set is not instrumented
abbrev pub RefusesSet : List ClassDef → Stop → Type 0
RefusesSet set (NotBuilt name) = TellsNotBuilt set name
RefusesSet set Memory = ⊤
RefusesSet set _ = ⊥

-- the folder that is read loads, and the lists are read
pub record AreInputs (paths : Paths) (files : Files) (set : List ClassDef) (config : Config) : Type 0 where
  pub loads : LoadsFrom names.Source files paths.input set
  pub lists : Configures files paths.config config

-- the folder that is read loads, the lists are read, and the folder that is written is empty
pub record IsReady (paths : Paths) (files : Files) (set : List ClassDef) (config : Config) : Type 0 where
  pub loads : LoadsFrom names.Source files paths.input set
  pub lists : Configures files paths.config config
  pub empty : IsEmpty files paths.output

-- each part passes, with this set and these lists
pub record Passes (paths : Paths) (files : Files) (set : List ClassDef) (config : Config) : Type 0 where
  pub ready : IsReady paths files set config
  pub built : IsFirstSet set

-- the first part that fails. A refusal yields to a fault of the folder and to want of memory, which may come at any part
abbrev pub Refuses : Paths → Files → Stop → Type 0
Refuses paths files stop =
    RefusesLoad names.Source files paths.input stop
    ⊎ ((set : List ClassDef) × LoadsFrom names.Source files paths.input set × RefusesConfig files paths.config stop)
    ⊎ ((set : List ClassDef) × LoadsFrom names.Source files paths.input set × (config : Config) × Configures files paths.config config × RefusesFull files paths.output stop)
    ⊎ ((set : List ClassDef) × (config : Config) × IsReady paths files set config × RefusesSet set stop)

-- ---- what is written

-- these files are what is written of a set that is built: one at each of its paths, and they load as a set that mirrors it
pub record IsMade (set : List ClassDef) (config : Config) (list : List File) : Type 0 where
  pub built : IsFirstSet set
  pub at : map (λ (file : File). file.path) list ≡ written_paths set
  pub whole : IsInstrumented set config list

-- these are the whole paths and the bytes of what is written of the set, below a folder
abbrev pub IsMadeBelow : (dir : List ℕ) → List ClassDef → Config → (whole : List File) → Type 0
IsMadeBelow dir set config whole = (list : List File) × IsMade set config list × (whole ≡ map (placed dir) list)

-- the parts before it pass, and these files are made of the set
pub record Instruments (paths : Paths) (files : Files) (list : List File) : Type 0 where
  pub set : List ClassDef
  pub config : Config
  pub ready : IsReady paths files set config
  pub made : IsMade set config list

-- whole paths and bytes of the files that are to be written
abbrev pub IsPrepared : Paths → Files → List File → Type 0
IsPrepared paths files whole = (list : List File) × Instruments paths files list × (whole ≡ map (placed paths.output) list)

-- the folder is as before, with one file at each path that is written, and no other difference; the class files that
-- stand in the output folder then are those
pub record Writes (paths : Paths) (old new : Files) : Type 0 where
  pub list : List File
  pub instruments : Instruments paths old list
  pub written : new ≡ with_files old (map (placed paths.output) list)
  pub found : ClassFiles new paths.output list

-- the first files of those that are written are whole, of the next, which has this path, there is at most a prefix, and
-- all else is as before
pub record StopsWriting (paths : Paths) (old new : Files) (path : List ℕ) : Type 0 where
  pub list : List File
  pub instruments : Instruments paths old list
  pub count : ℕ
  pub next : File
  pub stops : StopsAt old new (map (placed paths.output) list) count next
  pub named : path ≡ next.path

-- what is left: it is done, or a write failed, or it was stopped before the first write
abbrev pub Ends : Paths → (old new : Files) → Result (Unit {0}) Stop → Type 0
Ends paths old new (Ok done) = Writes paths old new
Ends paths old new (Err (WriteFault path)) = StopsWriting paths old new path
Ends paths old new (Err stop) = (new ≡ old) × Refuses paths old stop
