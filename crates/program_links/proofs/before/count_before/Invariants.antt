use Rattle.std.proofs.Common.{◌≡◌, ℕ, List, length}
use Rattle.class_model.specs.declared.class.ClassDef.{ClassDef}
use Rattle.program_links.specs.declared.before.Before.{Before}
use Rattle.look_laws.specs.Shown.{statics_before}
use Rattle.program_links.specs.Methods.{methods_before}
use Rattle.program_links.specs.Before.{AreBefore}
use Rattle.program_links.proofs.before.count_before.Given as goal

-- the classes so far have their rows, and what they have is counted
pub record Counted (set : List ClassDef) (rows : List Before) (methods statics number : ℕ) : Type 0 where
  pub are : AreBefore set rows number
  pub count : length rows ≡ number
  pub methods_are : methods ≡ methods_before set number
  pub statics_are : statics ≡ length (statics_before set number)

abbrev pub invariant-loop-number : goal.invariant-loop-number
invariant-loop-number l = Counted l.set l.rows l.methods l.statics l.number
