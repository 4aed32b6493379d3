use Rattle.std.proofs.Common.{ℕ, ◌<◌}
use Rattle.first_form.specs.Naming.{HasAt}
use Rattle.first_form.proofs.names.has_part.Given as goal

-- the part stands at none of the places so far
abbrev pub invariant-loop-place : goal.invariant-loop-place
invariant-loop-place l = (k : ℕ) → k < l.place → HasAt l.part l.units k → ⊥
