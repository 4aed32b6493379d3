use Rattle.std.proofs.Common.{◌≡◌, take}
use Rattle.std.specs.Prelude.{string_bytes}
use Rattle.std.proofs.Math.Utf8.{encodes}
use Rattle.instrument_set.proofs.class_path.path_of_class.Given as goal

-- the letters so far stand in the text
abbrev pub invariant-loop-unit : goal.invariant-loop-unit
invariant-loop-unit l = string_bytes l.text ≡ encodes (take l.unit-index l.unit-items)
