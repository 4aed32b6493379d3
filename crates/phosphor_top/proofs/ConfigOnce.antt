-- The file of the lists has one outcome.
use Rattle.std.proofs.Common.{◌≡◌, ◌∙◌, ℕ, List, refl, sym, ap, subst}
use Rattle.outside_io.specs.Files.{Files}
use Rattle.run_state.specs.declared.config.Config.{Config}
use Rattle.source_sink.specs.Reads.{Reads}
use Rattle.command_parts.specs.declared.stop.Stop.{Stop}
use Rattle.command_parts.specs.declared.stop.Stop.TheVariants.{ReadFault, FileTooLong, ConfigNotBuilt, NoFile, Memory}
use Rattle.phosphor_top.specs.Configuring.{Configures, RefusesConfig}
use Rattle.phosphor_top.specs.Verdict.{IsVerdict}
use Rattle.phosphor_top.proofs.FolderOnce.{one_bytes, there_or_absent, long_or_short, long_or_absent}

-- the lists are read, or they are not
pub config_or_not : (files : Files) (path : List ℕ) (config : Config) (stop : Stop) → IsVerdict stop → Configures files path config → RefusesConfig files path stop → ⊥
config_or_not files path config (ReadFault at) is configures refuses = is
config_or_not files path config (FileTooLong at) is configures refuses = long_or_short files path configures.bytes configures.read.1 configures.read.0 refuses.1
config_or_not files path config ConfigNotBuilt is configures refuses =
    refuses.other config (subst (λ (bytes : List ℕ). Reads bytes config) (one_bytes files path configures.bytes refuses.bytes configures.read refuses.read) configures.lists)
config_or_not files path config (NoFile at) is configures refuses = there_or_absent files path configures.bytes configures.read refuses.1
config_or_not files path config Memory is configures refuses = is
config_or_not files path config _ is configures refuses = refuses

long_once : (files : Files) (path a : List ℕ) (other : Stop) → IsVerdict other → RefusesConfig files path (FileTooLong a) → RefusesConfig files path other → FileTooLong a ≡ other
long_once files path a (FileTooLong b) also x y = ap FileTooLong (x.0 ∙ sym y.0)
long_once files path a ConfigNotBuilt also x y = absurd (long_or_short files path y.bytes y.read.1 y.read.0 x.1)
long_once files path a (NoFile b) also x y = absurd (long_or_absent files path x.1 y.1)
long_once files path a (ReadFault b) also x y = absurd also
long_once files path a Memory also x y = absurd also
long_once files path a _ also x y = absurd y

other_once : (files : Files) (path : List ℕ) (other : Stop) → IsVerdict other → RefusesConfig files path ConfigNotBuilt → RefusesConfig files path other → ConfigNotBuilt ≡ other
other_once files path (FileTooLong b) also x y = absurd (long_or_short files path x.bytes x.read.1 x.read.0 y.1)
other_once files path ConfigNotBuilt also x y = refl
other_once files path (NoFile b) also x y = absurd (there_or_absent files path x.bytes x.read y.1)
other_once files path (ReadFault b) also x y = absurd also
other_once files path Memory also x y = absurd also
other_once files path _ also x y = absurd y

absent_once : (files : Files) (path a : List ℕ) (other : Stop) → IsVerdict other → RefusesConfig files path (NoFile a) → RefusesConfig files path other → NoFile a ≡ other
absent_once files path a (FileTooLong b) also x y = absurd (long_or_absent files path y.1 x.1)
absent_once files path a ConfigNotBuilt also x y = absurd (there_or_absent files path y.bytes y.read x.1)
absent_once files path a (NoFile b) also x y = ap NoFile (x.0 ∙ sym y.0)
absent_once files path a (ReadFault b) also x y = absurd also
absent_once files path a Memory also x y = absurd also
absent_once files path a _ also x y = absurd y

-- lists that are not read have one refusal
pub config_once : (files : Files) (path : List ℕ) (stop other : Stop) → IsVerdict stop → IsVerdict other → RefusesConfig files path stop → RefusesConfig files path other → stop ≡ other
config_once files path (FileTooLong a) other is also x y = long_once files path a other also x y
config_once files path ConfigNotBuilt other is also x y = other_once files path other also x y
config_once files path (NoFile a) other is also x y = absent_once files path a other also x y
config_once files path (ReadFault a) other is also x y = absurd is
config_once files path Memory other is also x y = absurd is
config_once files path _ other is also x y = absurd x
