use Rattle.std.proofs.Common.{ℕ, List}
use Rattle.class_model.specs.declared.class.ClassDef.{ClassDef}
use Rattle.program_links.specs.Numbers.{Numbers, Grows}
use Rattle.program_links.specs.Each.{Numbered}
use Rattle.program_links.specs.RowTo.{IsClassType}
use Rattle.program_links.proofs.class_rows.class_types.Given as goal

-- the tables grew, and the classes so far have the numbers of their types
pub record SoFar (set : List ClassDef) (old new : Numbers) (types : List ℕ) (class : ℕ) : Type 0 where
  pub grows : Grows old new
  pub are : Numbered (IsClassType new set) types class

abbrev pub invariant-loop-class : goal.invariant-loop-class
invariant-loop-class l = SoFar l.set l.fn.tables l.tables l.types l.class
