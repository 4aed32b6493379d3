use Rattle.std.proofs.Common.{◌≡◌, ◌++◌, take, drop, All}
use Rattle.stack_maps.specs.Bounds.{FrameFits}
use Rattle.stack_maps.specs.Spelling.{Ascending, frames_text}
use Rattle.stack_maps.proofs.encode.put_frames.Given as goal

abbrev pub invariant-loop-frame : goal.invariant-loop-frame
invariant-loop-frame l = record {
  spelled : l.bytes.items ++ frames_text l.next (drop l.frame-index l.frames) ≡ l.initial.bytes.items ++ frames_text 0 l.frames;
  ascending : Ascending l.next (drop l.frame-index l.frames);
  fit : All FrameFits (take l.frame-index l.frames);
}
