use Rattle.std.proofs.Common.{arith}
use Rattle.stack_maps.proofs.TableLaws.{frames_found, frames_only}
use Rattle.stack_maps.proofs.decode.decode_frames.Goals as goal

pub returns-clause-found : goal.returns-clause-found
returns-clause-found c = frames_found c.args.first.now c.args.bytes.now c.read_frames.result (λ i. omega (arith, c.type_inv.bytes i)) c.read_frames.ensures

pub returns-clause-only : goal.returns-clause-only
returns-clause-only c = λ text rest written is parts. frames_only c.args.first.now c.args.bytes.now text rest written c.read_frames.result is parts c.read_frames.ensures
