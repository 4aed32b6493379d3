use Rattle.std.proofs.Common.{◌≡◌, ◌++◌, drop, map}
use Rattle.class_set.specs.Assignable.{type_of}
use Rattle.verifier.proofs.first.push_params.Given as goal

abbrev pub invariant-loop-ty : goal.invariant-loop-ty
invariant-loop-ty l = l.types ++ map type_of (drop l.ty-index l.params) ≡ l.initial.types ++ map type_of l.params
