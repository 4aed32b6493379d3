use Rattle.std.proofs.Common.{ℕ, ◌<◌, get_or}
use Rattle.class_model.specs.declared.class.ClassDef.{ClassDef}
use Rattle.verifier.specs.Set.{IsCheckableClass}
use Rattle.verifier.proofs.checkable.is_checkable.Given as goal

abbrev pub invariant-loop-number : goal.invariant-loop-number
invariant-loop-number l = (k : ℕ) (d : ClassDef) → k < l.number → IsCheckableClass (get_or l.set k d)
