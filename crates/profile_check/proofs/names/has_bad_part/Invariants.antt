use Rattle.std.proofs.Common.{◌≡◌, drop}
use Rattle.std.specs.List.{list_any}
use Rattle.profile_check.specs.Names.{is_bad_part, parts_of}
use Rattle.profile_check.proofs.Parts.{bad_rest}
use Rattle.profile_check.proofs.names.has_bad_part.Given as goal

-- what is left decides
abbrev pub invariant-loop-unit : goal.invariant-loop-unit
invariant-loop-unit l = list_any is_bad_part (parts_of l.units) ≡ bad_rest l.empty (drop l.unit-index l.units)
