use Rattle.std.specs.Prelude.{pos}
use Rattle.class_shape.specs.Shaped.{place_of}
use Rattle.class_shape.proofs.Ascending.{Left}
use Rattle.class_shape.proofs.code.ascend_above.Given as goal

-- what is left decides
abbrev pub invariant-loop-row : goal.invariant-loop-row
invariant-loop-row l = Left place_of (pos l.fn.last) l.frames (pos l.last) l.row-index
