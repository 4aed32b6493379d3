use Rattle.std.proofs.Common.{◌≤◌, take, vec_len, Ok}
use Rattle.std.specs.Prelude.{IfSome}
use Rattle.command_parts.specs.Looks.{Looked}
use Rattle.command_parts.proofs.ClassFileLists.{ReadSoFar}
use Rattle.command_parts.proofs.reading.class_files.Given as goal

-- the folder was only looked at, and the first class files were read
abbrev pub invariant-loop-path : goal.invariant-loop-path
invariant-loop-path g l = record {
  looked : Looked {T = Unit {0}} (g.F.Folder.files l.fn.folder) (g.F.Folder.files l.folder) (g.F.Folder.read_faults l.fn.folder) (g.F.Folder.read_faults l.folder) (g.F.Folder.write_faults l.fn.folder) (g.F.Folder.write_faults l.folder) (Ok tt);
  few : vec_len l.files ≤ l.path-index;
  read : IfSome (g.F.Folder.files l.fn.folder) (λ files. ReadSoFar files l.dir (take l.path-index l.path-items) l.files.items);
}
