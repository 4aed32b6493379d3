use Rattle.std.proofs.Common.{◌≡◌, ◌++◌, replicate}
use Rattle.class_model.proofs.print.add_type.Given as goal

abbrev pub invariant-loop : goal.invariant-loop
invariant-loop l = l.out.items ≡ l.initial.out.items ++ replicate l.counter 91
