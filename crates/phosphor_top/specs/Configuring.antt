-- The lists of sources and sinks that a file has, and where they are refused. This project's own order: whether the file
-- is there, how long it is, what it says.
use Rattle.std.specs.Prelude.{◌≡◌, ℕ, List, None, ⊤}
use Rattle.std.specs.FinMap.{get}
use Rattle.outside_io.specs.Files.{Files}
use Rattle.run_state.specs.declared.config.Config.{Config}
use Rattle.source_sink.specs.Reads.{Reads}
use Rattle.command_parts.specs.Folders.{IsLong, ReadsBytes}
use Rattle.command_parts.specs.declared.stop.Stop.{Stop}
use Rattle.command_parts.specs.declared.stop.Stop.TheVariants.{ReadFault, FileTooLong, ConfigNotBuilt, NoFile, Memory}

-- the file of this path has the lists
pub record Configures (files : Files) (path : List ℕ) (config : Config) : Type 0 where
  pub bytes : List ℕ
  pub read : ReadsBytes files path bytes
  pub lists : Reads bytes config

-- bytes that are no lists of the form that is built
abbrev pub RefusesBytes : List ℕ → Stop → Type 0
RefusesBytes bytes ConfigNotBuilt = (config : Config) → Reads bytes config → ⊥
RefusesBytes bytes Memory = ⊤
RefusesBytes bytes _ = ⊥

-- the lists are of a form that is not built yet
pub record IsOtherConfig (files : Files) (path : List ℕ) : Type 0 where
  pub bytes : List ℕ
  pub read : ReadsBytes files path bytes
  pub other : (config : Config) → Reads bytes config → ⊥

-- the lists are not read
abbrev pub RefusesConfig : Files → (path : List ℕ) → Stop → Type 0
RefusesConfig files path (NoFile at) = (at ≡ path) × (get files path ≡ None)
RefusesConfig files path (FileTooLong at) = (at ≡ path) × IsLong files path
RefusesConfig files path ConfigNotBuilt = IsOtherConfig files path
RefusesConfig files path (ReadFault at) = ⊤
RefusesConfig files path Memory = ⊤
RefusesConfig files path _ = ⊥
