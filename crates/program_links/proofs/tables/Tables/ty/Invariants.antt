use Rattle.std.proofs.Common.{◌≡◌, ℕ, Some, slice_get}
use Rattle.class_model.specs.declared.types.BaseType.{BaseType}
use Rattle.program_links.specs.Numbers.{Numbers, Grows}
use Rattle.program_links.proofs.tables.Tables.ty.Given as goal

-- the type of so many dimensions has this number
pub record Numbered (old new : Numbers) (number depth : ℕ) (base : BaseType) : Type 0 where
  pub grows : Grows old new
  pub is : slice_get new.types number ≡ Some (record { depth = depth; base = base })

abbrev pub invariant-loop-below : goal.invariant-loop-below
invariant-loop-below l = Numbered l.fn.self l.self l.number l.below l.base
