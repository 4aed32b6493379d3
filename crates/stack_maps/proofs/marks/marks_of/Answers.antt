use Rattle.stack_maps.specs.Marks.{table_marks}
use Rattle.stack_maps.proofs.MarkLoops.{frames_are_done}
use Rattle.stack_maps.proofs.marks.marks_of.Goals as goal

pub returns : goal.returns
returns c = frames_are_done c.loop-number.number c.args.written.now c.loop-number.marks (table_marks 0 c.args.written.now) c.loop-number-test.false c.loop-number.invariant
