use Rattle.std.proofs.Common.{◌≡◌, take}
use Rattle.modified_utf8.specs.Text.{text_bytes}
use Rattle.modified_utf8.proofs.text.units_text.Given as goal

abbrev pub invariant-loop-unit : goal.invariant-loop-unit
invariant-loop-unit l = l.bytes.items ≡ text_bytes (take l.unit-index l.units)
