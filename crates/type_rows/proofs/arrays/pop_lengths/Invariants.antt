use Rattle.std.proofs.Common.{◌≡◌}
use Rattle.std.specs.Prelude.{replicate}
use Rattle.class_model.specs.declared.class.VType.TheVariants.{Int}
use Rattle.type_rows.specs.Operands.{pops}
use Rattle.type_rows.proofs.arrays.pop_lengths.Given as goal

abbrev pub decreases-loop-left : goal.decreases-loop-left
decreases-loop-left l = l.left

abbrev pub invariant-loop-left : goal.invariant-loop-left
invariant-loop-left l = record {
  same : l.state.locals ≡ l.initial.state.locals;
  rest : pops l.method (replicate l.left Int) l.state.stack ≡ pops l.method (replicate l.dimensions Int) l.initial.state.stack;
}
