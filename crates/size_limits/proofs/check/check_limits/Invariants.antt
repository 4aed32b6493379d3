use Rattle.std.specs.Prelude.{option_map}
use Rattle.size_limits.specs.Limits.{in_class, class_limit}
use Rattle.size_limits.proofs.First.{NoneYet}
use Rattle.size_limits.proofs.check.check_limits.Given as goal

abbrev pub invariant-loop-at : goal.invariant-loop-at
invariant-loop-at l = NoneYet (λ at class. option_map (in_class at) (class_limit l.config class)) l.classes l.at
