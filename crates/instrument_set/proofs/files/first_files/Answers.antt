use Rattle.std.proofs.Common.{List, subst, ap, ◌∙◌}
use Rattle.std.specs.Prelude.{map}
use Rattle.std.specs.List.{AllZip}
use Rattle.std.proofs.lemmas.List.Elements.{All-same}
use Rattle.class_model.specs.declared.class.ClassDef.{ClassDef}
use Rattle.class_shape.specs.Shaped.{Shaped}
use Rattle.instrument_set.specs.ClassFile.{IsClassFile}
use Rattle.instrument_set.specs.Marking.{marks_of}
use Rattle.instrument_set.specs.WrittenSet as spec
use Rattle.instrument_set.proofs.PathText.{HasPlainName, written_plain}
use Rattle.instrument_set.proofs.Shape.{written_shaped}
use Rattle.instrument_set.proofs.Limits.{IsUnlimited, written_unlimited}
use Rattle.instrument_set.proofs.Filed.{paths_are, files_are}
use Rattle.instrument_set.proofs.files.first_files.Goals as goal

pub class_files-requires-clause-plain : goal.class_files-requires-clause-plain
class_files-requires-clause-plain c =
    let set = c.args.set.now in
    let config = c.args.config.now in
    All-same HasPlainName c.deref.result.now (spec.written_set (marks_of config) set) (c.deref.ensures.value ∙ c.in_ok-written.ensures.exact) (written_plain set config c.requires.set)

pub class_files-requires-clause-shaped : goal.class_files-requires-clause-shaped
class_files-requires-clause-shaped c =
    let set = c.args.set.now in
    let config = c.args.config.now in
    All-same Shaped c.deref.result.now (spec.written_set (marks_of config) set) (c.deref.ensures.value ∙ c.in_ok-written.ensures.exact) (written_shaped set config c.requires.set)

pub class_files-requires-clause-fit : goal.class_files-requires-clause-fit
class_files-requires-clause-fit c =
    let set = c.args.set.now in
    let config = c.args.config.now in
    All-same IsUnlimited c.deref.result.now (spec.written_set (marks_of config) set) (c.deref.ensures.value ∙ c.in_ok-written.ensures.exact) (written_unlimited set config c.requires.set)

pub returns-clause-paths : goal.returns-clause-paths
returns-clause-paths c =
    paths_are c.in_ok-files.files.items c.deref.result.now c.in_ok-files.ensures
    ∙ ap (λ (classes : List ClassDef). map (λ (class : ClassDef). spec.path_of class.name) classes) c.deref.ensures.value
    ∙ c.in_ok-written.ensures.paths

pub returns-clause-whole : goal.returns-clause-whole
returns-clause-whole c =
    let written = c.in_ok-written.written.items in
    let files = c.in_ok-files.files.items in (
      written,
      c.in_ok-written.ensures.loads files (files_are files written (subst (λ (classes : List ClassDef). AllZip IsClassFile files classes) c.deref.ensures.value c.in_ok-files.ensures)),
      c.in_ok-written.ensures.mirrors,
    )
