use Rattle.std.proofs.Common.{◌≡◌, ◌+◌, drop}
use Rattle.std.specs.Prelude.{sum_by}
use Rattle.class_set.specs.Assignable.{width}
use Rattle.type_rows.proofs.types.fits.Given as goal

abbrev pub invariant-loop-ty : goal.invariant-loop-ty
invariant-loop-ty l = l.left + sum_by width l.types ≡ l.most + sum_by width (drop l.ty-index l.types)
