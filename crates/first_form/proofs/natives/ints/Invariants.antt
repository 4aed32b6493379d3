use Rattle.std.proofs.Common.{◌≡◌, replicate}
use Rattle.small_base.specs.Members.{int_type}
use Rattle.first_form.proofs.natives.ints.Given as goal

-- so many ints are there
abbrev pub invariant-loop : goal.invariant-loop
invariant-loop l = l.types ≡ replicate l.counter int_type
