use Rattle.std.proofs.Common.{◌≡◌, drop}
use Rattle.profile_check.specs.Names.{is_reserved}
use Rattle.profile_check.proofs.names.holds_reserved.Given as goal

-- what is left decides
abbrev pub invariant-loop-start : goal.invariant-loop-start
invariant-loop-start l = is_reserved l.units ≡ is_reserved (drop l.start l.units)
