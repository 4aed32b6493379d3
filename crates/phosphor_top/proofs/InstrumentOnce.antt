-- The verdict on `instrument` is one.
use Rattle.std.proofs.Common.{◌≡◌, ◌∙◌, ℕ, List, Option, Some, sym, ap, subst, inl, inr}
use Rattle.std.specs.Prelude.{slice_get}
use Rattle.outside_io.specs.Files.{Files}
use Rattle.class_model.specs.declared.class.ClassDef.{ClassDef}
use Rattle.run_state.specs.declared.config.Config.{Config}
use Rattle.profile_check.specs.declared.profile.Names.TheVariants as names
use Rattle.first_form.specs.FirstSet.{IsFirstSet}
use Rattle.first_form.proofs.FirstSets.{told_once}
use Rattle.command_parts.specs.Folders.{IsEmpty, RefusesFull}
use Rattle.command_parts.specs.declared.stop.Stop.{Stop}
use Rattle.command_parts.specs.declared.stop.Stop.TheVariants.{ListFault, NotEmpty, NotBuilt, Memory}
use Rattle.phosphor_top.specs.Commands.{Paths}
use Rattle.phosphor_top.specs.Instrument.{Passes, Refuses, RefusesSet, TellsNotBuilt}
use Rattle.phosphor_top.specs.Verdict.{IsVerdict}
use Rattle.phosphor_top.proofs.FolderOnce.{empty_or_full}
use Rattle.phosphor_top.proofs.LoadOnce.{load_or_not, load_once, one_loaded}
use Rattle.phosphor_top.proofs.ConfigOnce.{config_or_not, config_once}

-- ---- the folder that is written

empty_or_not : (files : Files) (dir : List ℕ) (stop : Stop) → IsVerdict stop → IsEmpty files dir → RefusesFull files dir stop → ⊥
empty_or_not files dir (ListFault at) is empty refuses = is
empty_or_not files dir (NotEmpty at) is empty refuses = empty_or_full files dir empty refuses.1
empty_or_not files dir Memory is empty refuses = is
empty_or_not files dir _ is empty refuses = refuses

full_is : (files : Files) (dir a : List ℕ) (other : Stop) → IsVerdict other → a ≡ dir → RefusesFull files dir other → NotEmpty a ≡ other
full_is files dir a (NotEmpty b) also x y = ap NotEmpty (x ∙ sym y.0)
full_is files dir a (ListFault b) also x y = absurd also
full_is files dir a Memory also x y = absurd also
full_is files dir a _ also x y = absurd y

full_once : (files : Files) (dir : List ℕ) (stop other : Stop) → IsVerdict stop → IsVerdict other → RefusesFull files dir stop → RefusesFull files dir other → stop ≡ other
full_once files dir (NotEmpty a) other is also x y = full_is files dir a other also x.0 y
full_once files dir (ListFault a) other is also x y = absurd is
full_once files dir Memory other is also x y = absurd is
full_once files dir _ other is also x y = absurd x

-- ---- the set

built_or_not : (set : List ClassDef) (stop : Stop) → IsVerdict stop → IsFirstSet set → RefusesSet set stop → ⊥
built_or_not set (NotBuilt name) is built refuses = refuses.first.not_first built
built_or_not set Memory is built refuses = is
built_or_not set _ is built refuses = refuses

same_class : (o : Option ClassDef) (c d : ClassDef) → o ≡ Some c → o ≡ Some d → c ≡ d
same_class o c d p q = cc

one_name : (set : List ClassDef) (p q : List ℕ) → TellsNotBuilt set p → TellsNotBuilt set q → p ≡ q
one_name set p q a b =
    let at : a.number ≡ b.number = told_once set a.number b.number a.first.told b.first.told in
    let class : a.class ≡ b.class = same_class (slice_get set b.number) a.class b.class (sym (ap (slice_get set) at) ∙ a.stands) b.stands in
    a.named ∙ ap (λ (c : ClassDef). c.name) class ∙ sym b.named

not_built_is : (set : List ClassDef) (a : List ℕ) (other : Stop) → IsVerdict other → TellsNotBuilt set a → RefusesSet set other → NotBuilt a ≡ other
not_built_is set a (NotBuilt b) also x y = ap NotBuilt (one_name set a b x y)
not_built_is set a Memory also x y = absurd also
not_built_is set a _ also x y = absurd y

set_once : (set : List ClassDef) (stop other : Stop) → IsVerdict stop → IsVerdict other → RefusesSet set stop → RefusesSet set other → stop ≡ other
set_once set (NotBuilt a) other is also x y = not_built_is set a other also x y
set_once set Memory other is also x y = absurd is
set_once set _ other is also x y = absurd x

-- ---- the whole

pub passes_or_refused : (paths : Paths) (files : Files) (set : List ClassDef) (config : Config) (stop : Stop) → IsVerdict stop → Passes paths files set config → Refuses paths files stop → ⊥
passes_or_refused paths files set config stop is passes (inl load) = load_or_not names.Source files paths.input set stop is passes.ready.loads load
passes_or_refused paths files set config stop is passes (inr (inl lists)) = config_or_not files paths.config config stop is passes.ready.lists lists.2
passes_or_refused paths files set config stop is passes (inr (inr (inl full))) = empty_or_not files paths.output stop is passes.ready.empty full.4
passes_or_refused paths files set config stop is passes (inr (inr (inr other))) =
    built_or_not set stop is passes.built (subst (λ (s : List ClassDef). RefusesSet s stop) (one_loaded names.Source files paths.input other.0 set other.2.loads passes.ready.loads) other.3)

-- it is refused once: from each part that refuses, itself first
pub refused_by_one : (paths : Paths) (files : Files) (stop other : Stop) → IsVerdict stop → IsVerdict other → Refuses paths files stop → Refuses paths files other → stop ≡ other
refused_by_one paths files stop other is also (inl a) (inl b) = load_once names.Source files paths.input stop other is also a b
refused_by_one paths files stop other is also (inl a) (inr (inl b)) = absurd (load_or_not names.Source files paths.input b.0 stop is b.1 a)
refused_by_one paths files stop other is also (inl a) (inr (inr (inl b))) = absurd (load_or_not names.Source files paths.input b.0 stop is b.1 a)
refused_by_one paths files stop other is also (inl a) (inr (inr (inr b))) = absurd (load_or_not names.Source files paths.input b.0 stop is b.2.loads a)
refused_by_one paths files stop other is also (inr (inl a)) (inl b) = absurd (load_or_not names.Source files paths.input a.0 other also a.1 b)
refused_by_one paths files stop other is also (inr (inl a)) (inr (inl b)) = config_once files paths.config stop other is also a.2 b.2
refused_by_one paths files stop other is also (inr (inl a)) (inr (inr (inl b))) = absurd (config_or_not files paths.config b.2 stop is b.3 a.2)
refused_by_one paths files stop other is also (inr (inl a)) (inr (inr (inr b))) = absurd (config_or_not files paths.config b.1 stop is b.2.lists a.2)
refused_by_one paths files stop other is also (inr (inr (inl a))) (inl b) = absurd (load_or_not names.Source files paths.input a.0 other also a.1 b)
refused_by_one paths files stop other is also (inr (inr (inl a))) (inr (inl b)) = absurd (config_or_not files paths.config a.2 other also a.3 b.2)
refused_by_one paths files stop other is also (inr (inr (inl a))) (inr (inr (inl b))) = full_once files paths.output stop other is also a.4 b.4
refused_by_one paths files stop other is also (inr (inr (inl a))) (inr (inr (inr b))) = absurd (empty_or_not files paths.output stop is b.2.empty a.4)
refused_by_one paths files stop other is also (inr (inr (inr a))) (inl b) = absurd (load_or_not names.Source files paths.input a.0 other also a.2.loads b)
refused_by_one paths files stop other is also (inr (inr (inr a))) (inr (inl b)) = absurd (config_or_not files paths.config a.1 other also a.2.lists b.2)
refused_by_one paths files stop other is also (inr (inr (inr a))) (inr (inr (inl b))) = absurd (empty_or_not files paths.output other also a.2.empty b.4)
refused_by_one paths files stop other is also (inr (inr (inr a))) (inr (inr (inr b))) =
    set_once b.0 stop other is also (subst (λ (s : List ClassDef). RefusesSet s stop) (one_loaded names.Source files paths.input a.0 b.0 a.2.loads b.2.loads) a.3) b.3
