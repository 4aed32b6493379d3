use Rattle.std.proofs.Common.{◌≡◌, ◌∷◌, ◌++◌, ◌+◌, ◌≤◌, reverse}
use Rattle.std.specs.Vec.{vec_len, vec_capacity}
use Rattle.machine.proofs.callers.lay_on.Given as goal

abbrev pub invariant-loop-laid : goal.invariant-loop-laid
invariant-loop-laid g l =
    (l.frames.items ++ (l.top ∷ reverse l.below.items) ≡ l.initial.frames.items ++ (l.initial.top ∷ reverse l.initial.below.items))
    × (vec_len l.frames + l.laid ≡ vec_len l.initial.frames) × (vec_len l.below + vec_len l.frames ≤ vec_capacity l.below)
