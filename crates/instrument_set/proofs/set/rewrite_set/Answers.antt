use Rattle.std.specs.Prelude.{map}
use Rattle.std.specs.List.{AllZip}
use Rattle.std.proofs.Common.{List, subst, sym, ap, ◌∙◌}
use Rattle.class_model.specs.declared.class.ClassDef.{ClassDef}
use Rattle.set_loader.specs.declared.file.File.{File}
use Rattle.profile_check.specs.declared.profile.Names.TheVariants.{Written}
use Rattle.set_loader.specs.Loads.{IsFileOf, Loads}
use Rattle.instrument_set.specs.declared.marks.Marks.{Marks}
use Rattle.instrument_set.specs.Marking.{marks_of}
use Rattle.instrument_set.specs.Mirrors.{Mirrors}
use Rattle.instrument_set.specs.WrittenSet as spec
use Rattle.instrument_set.proofs.Loaded.{set_loads}
use Rattle.instrument_set.proofs.Headline.{mirrors}
use Rattle.instrument_set.proofs.Paths.{set_paths}
use Rattle.instrument_set.proofs.set.rewrite_set.Goals as goal

pub returns-clause-mirrors : goal.returns-clause-mirrors
returns-clause-mirrors c =
    let set = c.args.set.now in
    let config = c.args.config.now in
    subst (λ (classes : List ClassDef). Mirrors set config classes) (sym (c.in_ok-written.ensures ∙ ap (λ (m : Marks). spec.written_set m set) c.marks.ensures)) (mirrors set config c.requires.set c.requires.config)

pub returns-clause-loads : goal.returns-clause-loads
returns-clause-loads c =
    let set = c.args.set.now in
    subst (λ (classes : List ClassDef). (files : List File) → AllZip IsFileOf files classes → Loads Written files classes)
    (sym (c.in_ok-written.ensures ∙ ap (λ (m : Marks). spec.written_set m set) c.marks.ensures)) (set_loads (marks_of c.args.config.now) set c.requires.set)

pub returns-clause-paths : goal.returns-clause-paths
returns-clause-paths c =
    let set = c.args.set.now in
    ap (λ (classes : List ClassDef). map (λ (class : ClassDef). spec.path_of class.name) classes) (c.in_ok-written.ensures ∙ ap (λ (m : Marks). spec.written_set m set) c.marks.ensures) ∙ set_paths (marks_of c.args.config.now) set c.requires.set
