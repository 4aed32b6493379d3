use Rattle.std.proofs.Common.{◌↔◌, drop}
use Rattle.outside_io.specs.MemoryKinds.{Differ}
use Rattle.outside_io.proofs.mem_folder.differ.Given as goal

-- all paths differ exactly where those that are left do
abbrev pub invariant-loop-i : goal.invariant-loop-i
invariant-loop-i l = Differ l.files ↔ Differ (drop l.i l.files)
