use Rattle.std.proofs.Common.{◌≡◌, ◌∙◌, ◌+◌, List, take, sym, subst, arith}
use Rattle.std.specs.Prelude.{IfSome}
use Rattle.std.specs.List.{filter}
use Rattle.std.proofs.lemmas.Result.{err_from_is_err_and}
use Rattle.outside_io.specs.Files.{Files}
use Rattle.command_parts.specs.Folders.{below, is_class_path, ReadsFile, RefusesRead}
use Rattle.set_loader.specs.declared.file.File.{File}
use Rattle.command_parts.proofs.ClassFileLists.{ReadSoFar, told_before, looked_on, read_more, read_stops, all_read, few_classes}
use Rattle.command_parts.proofs.reading.class_files.Goals as goal

pub loop-path-preserved : goal.loop-path-preserved
loop-path-preserved g c = record {
  looked = looked_on _ _ _ _ _ _ _ _ _ _ c.loop-path.invariant.looked c.in_ok-file.ensures.looked;
  few = omega (arith, c.in_ok-push.ensures.len);
  read =
      subst (λ (fs : List File). IfSome (g.F.Folder.files c.args.folder.now) (λ files. ReadSoFar files c.args.dir.now (take (c.loop-path.path-index + 1) c.deref-path-items.result.now) fs)) (sym c.in_ok-push.ensures.items)
      (read_more (g.F.Folder.files c.args.folder.now) c.args.dir.now c.deref-path-items.result.now c.loop-path.path-index c.path-item.result c.loop-path.files.items c.in_ok-file.file c.loop-path-test.true c.path-item.is c.loop-path.invariant.read
      (told_before (g.F.Folder.files c.args.folder.now) (g.F.Folder.files c.loop-path.folder) (λ (files : Files). ReadsFile files c.args.dir.now c.path-item.result c.in_ok-file.file) c.loop-path.invariant.looked.kept c.in_ok-file.ensures.gives));
}

pub returns-in_err-file-clause-gives : goal.returns-in_err-file-clause-gives
returns-in_err-file-clause-gives g c =
    let p = err_from_is_err_and c.from_residual-in_err-file.result c.from_residual-in_err-file.ensures.1 in
    let are : c.deref-path-items.result.now ≡ filter is_class_path c.in_ok-paths.paths = c.deref-path-items.ensures.value ∙ c.in_ok-classes.ensures in
    rw (p.1, p.2)
    (read_stops (g.F.Folder.files c.args.folder.now) c.args.dir.now c.in_ok-paths.paths c.deref-path-items.result.now c.loop-path.path-index c.path-item.result c.loop-path.files.items c.in_err-file.field-0.0 are c.loop-path-test.true c.path-item.is c.in_ok-paths.ensures.gives c.loop-path.invariant.read
    (told_before (g.F.Folder.files c.args.folder.now) (g.F.Folder.files c.loop-path.folder) (λ (files : Files). RefusesRead files (below c.args.dir.now c.path-item.result) c.path-item.result c.in_err-file.field-0.0) c.loop-path.invariant.looked.kept c.in_err-file.ensures.gives))

pub returns-clause-few : goal.returns-clause-few
returns-clause-few g c =
    let are : c.deref-path-items.result.now ≡ filter is_class_path c.in_ok-paths.paths = c.deref-path-items.ensures.value ∙ c.in_ok-classes.ensures in
    omega (arith, few_classes c.args.dir.now c.in_ok-paths.paths c.deref-path-items.result.now are c.in_ok-paths.ensures.few, c.loop-path.auto.path-index-end)

pub returns-clause-gives : goal.returns-clause-gives
returns-clause-gives g c =
    let are : c.deref-path-items.result.now ≡ filter is_class_path c.in_ok-paths.paths = c.deref-path-items.ensures.value ∙ c.in_ok-classes.ensures in
    all_read (g.F.Folder.files c.args.folder.now) c.args.dir.now c.in_ok-paths.paths c.deref-path-items.result.now c.loop-path.path-index c.loop-path.files.items are c.loop-path-test.false c.in_ok-paths.ensures.gives c.loop-path.invariant.read
