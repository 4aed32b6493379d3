use Rattle.class_limits.proofs.TextSizes.{UnitsTo}
use Rattle.class_limits.proofs.text_sizes.text_size.Given as goal

abbrev pub invariant-loop-unit : goal.invariant-loop-unit
invariant-loop-unit l = UnitsTo l.units l.unit-index l.bytes
