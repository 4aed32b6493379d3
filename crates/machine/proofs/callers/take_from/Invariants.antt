use Rattle.std.proofs.Common.{◌≡◌, ◌∷◌, ◌+◌, drop, reverse}
use Rattle.std.specs.Vec.{vec_len}
use Rattle.machine.proofs.callers.take_from.Given as goal

abbrev pub invariant-loop-taken : goal.invariant-loop-taken
invariant-loop-taken g l = (l.top ∷ reverse l.below.items ≡ drop l.taken (l.initial.top ∷ reverse l.initial.below.items)) × (vec_len l.below + l.taken ≡ vec_len l.initial.below)
