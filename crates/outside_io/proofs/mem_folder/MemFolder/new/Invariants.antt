use Rattle.std.proofs.Common.{◌≡◌, take}
use Rattle.outside_io.specs.WriteLog.{LogState}
use Rattle.outside_io.proofs.mem_folder.MemFolder.new.Given as goal

-- the files so far were written
abbrev pub invariant-loop-path : goal.invariant-loop-path
invariant-loop-path l = ◌≡◌ {A = LogState} l.log (record { written = take l.path-index l.path-items; files_room = l.files_room; bytes_room = l.bytes_room })
