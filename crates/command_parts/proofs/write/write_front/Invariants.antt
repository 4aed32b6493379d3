use Rattle.std.proofs.Common.{◌≤◌, take, None}
use Rattle.command_parts.specs.Writing.{WritesFront}
use Rattle.command_parts.proofs.write.write_front.Given as goal

-- the files so far are whole, and no count has fallen
abbrev pub invariant-loop-i : goal.invariant-loop-i
invariant-loop-i g l = record {
  front : WritesFront (g.F.Folder.files l.fn.folder) (g.F.Folder.files l.folder) (take l.i l.files) None;
  reads : g.F.Folder.read_faults l.fn.folder ≤ g.F.Folder.read_faults l.folder;
  writes : g.F.Folder.write_faults l.fn.folder ≤ g.F.Folder.write_faults l.folder;
}
