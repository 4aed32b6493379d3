-- What the parts of `instrument` give, where the folder tells its files.
use Rattle.std.proofs.Common.{◌∙◌, List, Option, Some, None, sym, ap, subst, inl, inr}
use Rattle.std.specs.Prelude.{Result, Ok, Err, IfSome, MatchResult}
use Rattle.outside_io.specs.Files.{Files, Stay}
use Rattle.class_model.specs.declared.class.ClassDef.{ClassDef}
use Rattle.run_state.specs.declared.config.Config.{Config}
use Rattle.profile_check.specs.declared.profile.Names.TheVariants as names
use Rattle.set_loader.specs.declared.file.File.{File}
use Rattle.command_parts.specs.Folders.{ClassFiles, RefusesFull}
use Rattle.command_parts.specs.Writing.{placed}
use Rattle.command_parts.specs.Writing as writing
use Rattle.command_parts.specs.declared.stop.Stop.{Stop}
use Rattle.command_parts.specs.declared.stop.Stop.TheVariants.{WriteFault}
use Rattle.phosphor_top.specs.Commands.{Paths}
use Rattle.phosphor_top.specs.Loading.{RefusesLoad}
use Rattle.phosphor_top.specs.Configuring.{RefusesConfig}
use Rattle.phosphor_top.specs.Instrument.{Ends, IsMadeBelow, IsPrepared, IsReady, Refuses, RefusesSet}
use Rattle.phosphor_top.specs.Endings.{IfTold}
use Rattle.phosphor_top.proofs.FoundFiles.{found}

-- a stop that no part gives is none of the whole
pub from_no_part : (paths : Paths) (files : Files) (stop : Stop) → (RefusesLoad names.Source files paths.input stop → ⊥) → (RefusesConfig files paths.config stop → ⊥)
    → (RefusesFull files paths.output stop → ⊥) → ((set : List ClassDef) → RefusesSet set stop → ⊥) → Refuses paths files stop → ⊥
from_no_part paths files stop load lists output set (inl a) = load a
from_no_part paths files stop load lists output set (inr (inl b)) = lists b.2
from_no_part paths files stop load lists output set (inr (inr (inl c))) = output c.4
from_no_part paths files stop load lists output set (inr (inr (inr d))) = set d.0 d.3

write_ends : (paths : Paths) (old new : Files) (whole : List File) (result : Result (Unit {0}) Stop) → IsPrepared paths old whole → writing.Writes (Some old) (Some new) whole result → Ends paths old new result
write_ends paths old new whole (Ok done) ready wrote = record {
  list = ready.0;
  instruments = ready.1;
  written = wrote ∙ ap (writing.with_files old) ready.2;
  found = subst (λ (files : Files). ClassFiles files paths.output ready.0) (sym (wrote ∙ ap (writing.with_files old) ready.2)) (found paths old ready.0 ready.1);
}
write_ends paths old new whole (Err (WriteFault at)) ready wrote = record {
  list = ready.0;
  instruments = ready.1;
  count = wrote.0;
  next = wrote.1;
  stops = subst (λ (fs : List File). writing.StopsAt old new fs wrote.0 wrote.1) ready.2 wrote.2;
  named = wrote.3;
}
write_ends paths old new whole (Err _) ready wrote = absurd wrote

-- what is made ends as its writing does
pub ends_written : (m n o : Option Files) (paths : Paths) (whole : List File) (result : Result (Unit {0}) Stop) → Stay m n → IfSome m (λ files. IsPrepared paths files whole)
    → writing.Writes n o whole result → IfTold m o (λ old new. Ends paths old new result)
ends_written None n o paths whole result stay ready wrote = tt
ends_written (Some m) None o paths whole result stay ready wrote = absurd stay
ends_written (Some m) (Some n) None paths whole result stay ready wrote = absurd wrote
ends_written (Some m) (Some n) (Some o) paths whole result stay ready wrote =
    write_ends paths m o whole result ready (subst (λ (f : Files). writing.Writes (Some f) (Some o) whole result) stay wrote)

-- what is made of a set that is ready, or refused of it, is made or refused of the whole
pub of_ready : {A : Type 0} (items : A → List File) (told : Option Files) (paths : Paths) (set : List ClassDef) (config : Config) (result : Result A Stop)
    → IfSome told (λ files. IsReady paths files set config) → MatchResult result (λ whole. IsMadeBelow paths.output set config (items whole)) (RefusesSet set)
    → IfSome told (λ files. MatchResult result (λ whole. IsPrepared paths files (items whole)) (Refuses paths files))
of_ready items None paths set config result ready made = tt
of_ready items (Some files) paths set config (Ok whole) ready made = (made.0, record { set = set; config = config; ready = ready; made = made.1 }, made.2)
of_ready items (Some files) paths set config (Err stop) ready made = inr (inr (inr (set, config, ready, made)))
