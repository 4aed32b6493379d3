use Rattle.std.proofs.Common.{◌↔◌, drop}
use Rattle.outside_io.specs.MemoryKinds.{Lack}
use Rattle.outside_io.proofs.mem_folder.lack.Given as goal

-- all lack the path exactly where those that are left do
abbrev pub invariant-loop-other : goal.invariant-loop-other
invariant-loop-other l = Lack l.path l.files ↔ Lack l.path (drop l.other-index l.files)
