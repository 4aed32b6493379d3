use Rattle.std.proofs.Common.{arith, length}
use Rattle.stack_maps.proofs.TableLaws.{marks_found, marks_only}
use Rattle.stack_maps.proofs.decode.frame_marks.Goals as goal

pub returns-clause-found : goal.returns-clause-found
returns-clause-found c = marks_found (length c.args.first.now) c.args.bytes.now c.read_marks.result (λ i. omega (arith, c.type_inv.bytes i)) c.read_marks.ensures

pub returns-clause-only : goal.returns-clause-only
returns-clause-only c = λ text rest written is parts. marks_only (length c.args.first.now) c.args.bytes.now text rest written c.read_marks.result is parts c.read_marks.ensures
