use Rattle.std.proofs.Common.{◌≡◌, drop, length}
use Rattle.std.specs.Cmp.Lexicographic.{pointwise}
use Rattle.class_set.specs.Assignable.{assignable}
use Rattle.class_set.proofs.class_set.ClassSet.operands_assignable.Given as goal

abbrev pub invariant-loop-i : goal.invariant-loop-i
invariant-loop-i l = record {
  lengths : length l.from ≡ length l.to;
  rest : pointwise (assignable l.self) (drop l.i l.from) (drop l.i l.to) ≡ pointwise (assignable l.self) l.from l.to;
}
