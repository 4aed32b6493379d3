use Rattle.std.proofs.Common.{◌≡◌, drop, map}
use Rattle.type_rows.specs.Jumps.{target_of}
use Rattle.verifier.specs.Check.{branched}
use Rattle.verifier.proofs.check.branch_rows.Given as goal

abbrev pub invariant-loop-row : goal.invariant-loop-row
invariant-loop-row l =
    branched l.method l.types (map target_of (drop l.row-index l.rows)) ≡ branched l.method l.types (map target_of l.rows)
