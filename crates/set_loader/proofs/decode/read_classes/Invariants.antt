use Rattle.std.proofs.Common.{take}
use Rattle.std.specs.List.{AllZip}
use Rattle.set_loader.specs.Passes.{IsReadFrom}
use Rattle.set_loader.proofs.decode.read_classes.Given as goal

-- the classes of the files so far
abbrev pub invariant-loop-number : goal.invariant-loop-number
invariant-loop-number l = AllZip IsReadFrom (take l.number l.files) l.classes.items
