use Rattle.std.proofs.Common.{ℕ, ◌<◌, get_or}
use Rattle.class_model.specs.declared.class.ClassDef.{ClassDef}
use Rattle.set_lookups.specs.Counts.{IsCounted}
use Rattle.set_lookups.proofs.counts.is_each_counted.Given as goal

-- those so far pass
abbrev pub invariant-loop-class : goal.invariant-loop-class
invariant-loop-class l = (k : ℕ) → k < l.class-index → (d : ClassDef) → IsCounted (get_or l.classes k d)
