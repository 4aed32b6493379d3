-- The verdict on `run` is one.
use Rattle.std.proofs.Common.{◌≡◌, ◌∙◌, ℕ, List, sym, ap, subst, inl, inr}
use Rattle.outside_io.specs.Files.{Files}
use Rattle.class_model.specs.declared.class.ClassDef.{ClassDef}
use Rattle.run_state.specs.Observation.{HasMain}
use Rattle.profile_check.specs.declared.profile.Names.TheVariants as names
use Rattle.command_parts.specs.declared.stop.Stop.{Stop}
use Rattle.command_parts.specs.declared.stop.Stop.TheVariants.{NoMain, Memory}
use Rattle.phosphor_top.specs.Commands.{Program}
use Rattle.phosphor_top.specs.Run.{Passes, Refuses, RefusesMain}
use Rattle.phosphor_top.specs.Verdict.{IsVerdict}
use Rattle.phosphor_top.proofs.LoadOnce.{load_or_not, load_once, one_loaded}

main_or_not : (set : List ClassDef) (main : List ℕ) (stop : Stop) → IsVerdict stop → HasMain set main → RefusesMain set main stop → ⊥
main_or_not set main (NoMain name) is has refuses = refuses.1 has
main_or_not set main Memory is has refuses = is
main_or_not set main _ is has refuses = refuses

no_main_is : (set : List ClassDef) (main a : List ℕ) (other : Stop) → IsVerdict other → a ≡ main → RefusesMain set main other → NoMain a ≡ other
no_main_is set main a (NoMain b) also x y = ap NoMain (x ∙ sym y.0)
no_main_is set main a Memory also x y = absurd also
no_main_is set main a _ also x y = absurd y

main_once : (set : List ClassDef) (main : List ℕ) (stop other : Stop) → IsVerdict stop → IsVerdict other → RefusesMain set main stop → RefusesMain set main other → stop ≡ other
main_once set main (NoMain a) other is also x y = no_main_is set main a other also x.0 y
main_once set main Memory other is also x y = absurd is
main_once set main _ other is also x y = absurd x

pub passes_or_refused : (program : Program) (files : Files) (set : List ClassDef) (stop : Stop) → IsVerdict stop → Passes program files set → Refuses program files stop → ⊥
passes_or_refused program files set stop is passes (inl load) = load_or_not names.Written files program.dir set stop is passes.loads load
passes_or_refused program files set stop is passes (inr other) =
    main_or_not set program.main stop is passes.main (subst (λ (s : List ClassDef). RefusesMain s program.main stop) (one_loaded names.Written files program.dir other.0 set other.1 passes.loads) other.2)

-- it is refused once: from each part that refuses, itself first
pub refused_by_one : (program : Program) (files : Files) (stop other : Stop) → IsVerdict stop → IsVerdict other → Refuses program files stop → Refuses program files other → stop ≡ other
refused_by_one program files stop other is also (inl a) (inl b) = load_once names.Written files program.dir stop other is also a b
refused_by_one program files stop other is also (inl a) (inr b) = absurd (load_or_not names.Written files program.dir b.0 stop is b.1 a)
refused_by_one program files stop other is also (inr a) (inl b) = absurd (load_or_not names.Written files program.dir a.0 other also a.1 b)
refused_by_one program files stop other is also (inr a) (inr b) =
    main_once b.0 program.main stop other is also (subst (λ (s : List ClassDef). RefusesMain s program.main stop) (one_loaded names.Written files program.dir a.0 b.0 a.1 b.1) a.2) b.2
