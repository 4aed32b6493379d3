use Rattle.std.proofs.Common.{◌≡◌, ◌+◌, take}
use Rattle.outside_io.specs.MemoryKinds.{bytes_of}
use Rattle.outside_io.proofs.mem_folder.bytes_fit.Given as goal

-- what is left is the room without the bytes of the files before
abbrev pub invariant-loop-path : goal.invariant-loop-path
invariant-loop-path l = l.room + bytes_of (take l.path-index l.files) ≡ l.bytes_room
