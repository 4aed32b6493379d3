use Rattle.class_shape.specs.ShapedInsn.{key_of}
use Rattle.class_shape.proofs.Ascending.{Left}
use Rattle.class_shape.proofs.insn.ascend_above.Given as goal

-- what is left decides
abbrev pub invariant-loop-row : goal.invariant-loop-row
invariant-loop-row l = Left key_of l.fn.last l.rows l.last l.row-index
