use Rattle.std.proofs.Common.{◌≡◌, ◌≢◌, [], false, true}
use Rattle.command_parts.proofs.ClassFileLists.{full_list, full_many, named_full}
use Rattle.command_parts.proofs.look.see_empty.Goals as goal

pub returns-else-is_empty-clause-gives : goal.returns-else-is_empty-clause-gives
returns-else-is_empty-clause-gives g c =
    let some : c.in-Ok.paths ≢ [] = λ e. let no : false ≡ true = c.if-is_empty.ensures.1 e in cc in
    named_full (g.F.Folder.files c.args.folder.now) c.args.dir.now c.in_ok-name.name c.in_ok-name.ensures (full_list (g.F.Folder.files c.args.folder.now) c.args.dir.now c.in-Ok.paths c.in-Ok.ensures.gives some)

pub returns-in-Err-TooManyFiles-clause-gives : goal.returns-in-Err-TooManyFiles-clause-gives
returns-in-Err-TooManyFiles-clause-gives g c =
    named_full (g.F.Folder.files c.args.folder.now) c.args.dir.now c.in_ok-name.name c.in_ok-name.ensures (full_many (g.F.Folder.files c.args.folder.now) c.args.dir.now c.in-Err-TooManyFiles.field-0-0 (rw c.in-Err-TooManyFiles.field-0-is at c.in-Err-TooManyFiles.ensures.gives))
