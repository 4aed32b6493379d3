use Rattle.machine_frames.specs.FrameOps.{frame_insn}
use Rattle.machine.proofs.Framing.{frame_acts, frame_stays}
use Rattle.machine.proofs.acting.act_frame.Goals as goal

pub returns-clause-ok : goal.returns-clause-ok
returns-clause-ok g c = frame_acts _ _ _ _ _ _ _ _ c.in_ok-flow.ensures.ok

pub returns-clause-kept : goal.returns-clause-kept
returns-clause-kept g c = frame_stays g.T.Tag.none_of g.T.Tag.join_of (frame_insn c.args.op) _ _ _ _ c.in_ok-flow.ensures.ok
