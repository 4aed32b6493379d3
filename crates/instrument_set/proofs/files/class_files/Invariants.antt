use Rattle.std.proofs.Common.{take}
use Rattle.std.specs.List.{AllZip}
use Rattle.instrument_set.specs.ClassFile.{IsClassFile}
use Rattle.instrument_set.proofs.files.class_files.Given as goal

-- the files so far are those of the classes so far
abbrev pub invariant-loop-class : goal.invariant-loop-class
invariant-loop-class l = AllZip IsClassFile l.files.items (take l.class-index l.classes)
