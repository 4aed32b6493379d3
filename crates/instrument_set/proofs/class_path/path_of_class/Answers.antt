use Rattle.std.proofs.Common.{◌∙◌}
use Rattle.std.specs.Prelude.{string_bytes}
use Rattle.instrument_set.proofs.PathText.{letter_more}
use Rattle.instrument_set.proofs.class_path.path_of_class.Goals as goal

pub loop-unit-preserved : goal.loop-unit-preserved
loop-unit-preserved c =
    c.in_ok-push_unit.ensures
    ∙ letter_more c.as_units-unit-items.result.now (string_bytes c.loop-unit.text) c.loop-unit.unit-index c.loop-unit-test.true c.loop-unit.invariant
