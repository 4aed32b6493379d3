-- What written classes do, against what the tagged machine does with the original classes. This project's own.
use Rattle.std.specs.Prelude.{◌≡◌, ◌≢◌, ℕ, ◌<◌, ◌≤◌, List, All}
use Rattle.class_model.specs.declared.class.ClassDef.{ClassDef}
use Rattle.profile_check.specs.declared.profile.Names.TheVariants as names
use Rattle.set_loader.specs.declared.file.File.{File}
use Rattle.set_loader.specs.Loads.{Loads}
use Rattle.run_state.specs.declared.config.Config.{Config}
use Rattle.run_state.specs.Texts.{string_name}
use Rattle.run_state.specs.Observation.{HasMain, plain_obs, tagged_obs}

-- A main class of the set, `java/lang/String` aside, is a main class of the written set. For every input and every
-- number n of steps there is a number, not below n, after which the plain machine on the written set shows exactly the
-- console, the reports and the ending of the tagged machine on the set after n steps.
pub record Mirrors (set : List ClassDef) (config : Config) (written : List ClassDef) : Type 0 where
  pub mains : (main : List ℕ) → main ≢ string_name → HasMain set main → HasMain written main
  pub shows : (main : List ℕ) → main ≢ string_name → HasMain set main → (input : List ℕ) → All (λ b. b < 256) input → (n : ℕ)
      → (m : ℕ) × (n ≤ m) × (plain_obs written main input m ≡ tagged_obs set config main input n)

-- files that load as written classes, which mirror the set
abbrev pub IsInstrumented : List ClassDef → Config → List File → Type 0
IsInstrumented set config files = (written : List ClassDef) × Loads names.Written files written × Mirrors set config written
