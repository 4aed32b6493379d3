-- What the file of the lists gives, where the folder tells its files.
use Rattle.std.proofs.Common.{ℕ, List, Option, Some, None}
use Rattle.std.specs.Prelude.{Result, Ok, Err, IfSome, MatchResult}
use Rattle.outside_io.specs.Files.{Files}
use Rattle.run_state.specs.declared.config.Config.{Config}
use Rattle.source_sink.specs.Reads.{Reads}
use Rattle.command_parts.specs.Folders.{ReadsBytes}
use Rattle.command_parts.specs.declared.stop.Stop.{Stop}
use Rattle.command_parts.specs.declared.stop.Stop.TheVariants.{ConfigNotBuilt, Memory}
use Rattle.phosphor_top.specs.Configuring.{Configures, RefusesBytes, RefusesConfig}

bytes_refused : (files : Files) (path bytes : List ℕ) (stop : Stop) → ReadsBytes files path bytes → RefusesBytes bytes stop → RefusesConfig files path stop
bytes_refused files path bytes ConfigNotBuilt read h = record { bytes = bytes; read = read; other = h }
bytes_refused files path bytes Memory read h = tt
bytes_refused files path bytes _ read h = absurd h

pub lists_give : (told : Option Files) (path bytes : List ℕ) (result : Result Config Stop) → IfSome told (λ files. ReadsBytes files path bytes)
    → MatchResult result (Reads bytes) (RefusesBytes bytes) → IfSome told (λ files. MatchResult result (Configures files path) (RefusesConfig files path))
lists_give None path bytes result read h = tt
lists_give (Some files) path bytes (Ok config) read h = record { bytes = bytes; read = read; lists = h }
lists_give (Some files) path bytes (Err stop) read h = bytes_refused files path bytes stop read h
