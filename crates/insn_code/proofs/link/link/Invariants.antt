use Rattle.std.proofs.Common.{◌≡◌, length}
use Rattle.std.specs.Vec.Iter.{into_iter_items, into_iter_len}
use Rattle.insn_code.specs.CodeReading.{in_front, linked}
use Rattle.insn_code.proofs.link.link.Given as goal

abbrev pub invariant-loop-pc : goal.invariant-loop-pc
invariant-loop-pc l = record {
  so_far : in_front l.insns (linked l.place l.starts.starts (into_iter_items l.pc-iterator)) ≡ linked l.place l.starts.starts l.fn.placed;
  left : length (into_iter_items l.pc-iterator) ≡ into_iter_len l.pc-iterator;
}
