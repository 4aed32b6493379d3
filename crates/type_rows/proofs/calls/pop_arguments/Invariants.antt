use Rattle.std.proofs.Common.{◌≡◌, ◌≤◌, length}
use Rattle.type_rows.specs.Calls.{arguments}
use Rattle.type_rows.specs.Operands.{pops}
use Rattle.type_rows.proofs.Steps.{arguments_of}
use Rattle.type_rows.proofs.calls.pop_arguments.Given as goal

abbrev pub decreases-loop-left : goal.decreases-loop-left
decreases-loop-left l = l.left

abbrev pub invariant-loop-left : goal.invariant-loop-left
invariant-loop-left l = record {
  whole : l.params ≡ l.desc.params;
  within : l.left ≤ length l.desc.params;
  same : l.state.locals ≡ l.initial.state.locals;
  rest : pops l.method (arguments_of l.left l.desc.params) l.state.stack ≡ pops l.method (arguments l.desc) l.initial.state.stack;
}
