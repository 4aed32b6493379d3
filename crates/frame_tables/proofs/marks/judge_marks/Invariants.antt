use Rattle.std.proofs.Common.{◌≡◌, ◌≤◌, drop}
use Rattle.frame_tables.specs.FrameReading.{marks_judged}
use Rattle.frame_tables.proofs.marks.judge_marks.Given as goal

abbrev pub invariant-loop-mark : goal.invariant-loop-mark
invariant-loop-mark l = record {
  so_far : marks_judged l.pool l.code l.start l.next (drop l.mark-index l.marks) ≡ marks_judged l.pool l.code l.start 0 l.marks;
  small : l.next ≤ 65536;
}
